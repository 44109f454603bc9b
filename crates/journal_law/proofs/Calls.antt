-- Every call of the cache, accepted or refused, keeps the invariant.
use Rattle.std.proofs.Common.{◌≡◌, ℕ, suc, ◌+◌, ◌<◌, ◌≤◌, Bool, true, false, cond, not, eqb, ltb, leb, List, [], ◌∷◌, ◌++◌, map, length, get_or, sym, refl, ap, ◌∙◌, subst, inl, arith}
use mathlib.Core.Option.{Option, some, none}
use Rattle.std.proofs.Math.Option.{none-ne-some}
use Rattle.std.proofs.lemmas.List.{length-map}
use Rattle.std.proofs.lemmas.Bool.{leb-false, ltb-false, eqb-false, both_ways}
use Rattle.disk.specs.Medium.{Block, Write, lay, Medium, passed, cut}
use Rattle.disk.specs.Calls.{Fate, fate, served, failed, wrong_length, wrong_place}
use Rattle.errors.specs.declared.CacheError.{CacheError}
use Rattle.journal_law.specs.Device.{Device}
use Rattle.head.specs.Head.{holds}
use Rattle.journal_law.specs.Cache.{Begun, Phase, slot, Group, Live, Call, begin, finish, withdraw, read, seal, step, restart, accepted, refused, Outcome, place_of, begun_place, different, decided, with_medium, with_group, begin_refusal, begun, find, without, collect, finished, withdrawn, cached, group_writes, read_shown, read_refusal, is_some, seal_refusal, sealed, DiskCall, write, flush, phase_call, next_phase, restarted_phase, in_phase, good_answer, good_medium, stepped, step_met, call_fate, read_disk, group_restarted, outcome_in}
use Rattle.journal_law.specs.Ledger.{UnderWay, Ledger, now_finished, committed_by, in_phase_now, with_under_way, moved, gone_back, step_noted, note, laid, by_mark, write_of}
use Rattle.journal_law.proofs.Media.{kept_mono, kept_cut, get_d_lay, length_lay, over}
use Rattle.journal_law.proofs.Forms.{head_of, Idle, Logged, Names}
use Rattle.head.proofs.RoundTrip.{decode_encode}
use Rattle.journal_law.proofs.Restore.{get_d_places}
use Rattle.journal_law.proofs.Start.{parts_fit, inside_all, blank_decodes}
use Rattle.journal_law.proofs.Tables.{holds_append, different_mono, length_different}
use Rattle.journal_law.proofs.Invariant.{content, InPhase, State, last_sealed, Invariant}
use Rattle.journal_law.proofs.Phases.{phase_restart}
use Rattle.journal_law.proofs.Steps.{same_phase, phase_step, phase_sealed}
use Rattle.journal_law.proofs.Entries.{table_begin, table_finish, table_withdraw, table_seal, shown_finish}

-- a call that passed its first test
pub passed_test : (b : Bool) (r : CacheError) (rest : Option CacheError) → cond b (some r) rest ≡ none → (b ≡ false) × (rest ≡ none)
passed_test true r rest e = absurd (none-ne-some r (sym e))
passed_test false r rest e = (refl, e)

pub decided_both : (P : Outcome → Type 0) (r : Option CacheError) (o : Outcome) (v : Live) → (r ≡ none → P o) →
    ((x : CacheError) → P (record { answer = refused x; live = v })) → P (decided r o v)
decided_both P none o v f g = f refl
decided_both P (some x) o v f g = g x

module _ (n : ℕ) (small : n ≤ 65_536) (opening : List Block) (size : length opening ≡ n) where
  -- the outcome of a call keeps the invariant, with the ledger that notes it
  abbrev pub Good : Ledger → Call → Outcome → Type 0
  Good l call o = Invariant n opening o.live (note l call o.answer)

  -- a disk call that only takes its entry off the plan, or not even that
  met_holds : (v : Live) (l : Ledger) (m : Medium) → m.firm ≡ v.medium.firm → m.loose ≡ v.medium.loose → Invariant n opening v l → Invariant n opening (with_medium v m) l
  met_holds v l m e f i = record {
    same_open = i.same_open;
    same_since = i.same_since;
    table = i.table;
    shown_next = i.shown_next;
    state = subst (λ x. State n opening x m.loose v.last v.group l.under_way l.committed) (sym e)
        (subst (λ x. State n opening v.medium.firm x v.last v.group l.under_way l.committed) (sym f) i.state);
  }

  begin_holds : (v : Live) (l : Ledger) (place : ℕ) (bytes : Block) → Invariant n opening v l →
      Good l (begin place bytes) (decided (begin_refusal n v place bytes) (begun v place bytes) v)
  begin_holds v l place bytes i = decided_both (Good l (begin place bytes)) (begin_refusal n v place bytes) (begun v place bytes) v accept (λ x. i)
    where
      w : Write
      w = record { place = place; bytes = bytes }

      accept : begin_refusal n v place bytes ≡ none → Good l (begin place bytes) (begun v place bytes)
      accept e =
          let e₁ = passed_test (not (eqb (length bytes) 512)) _ _ e in
          let e₂ = passed_test (leb n place) _ _ e₁.1 in
          let e₃ = passed_test (holds place (map begun_place v.open_writes)) _ _ e₂.1 in
          let e₄ = passed_test (ltb 8 (different n (place ∷ (map place_of v.collected ++ map begun_place v.open_writes)))) _ _ e₃.1 in
          record {
            same_open = ap (λ os. os ++ record { mark = suc v.counter; write = w } ∷ []) i.same_open;
            same_since = i.same_since;
            table = table_begin n v.open_writes l.finished v.collected v.counter i.table w (leb-false n place e₂.0) e₃.0
                (ltb-false 8 (different n (place ∷ (map place_of v.collected ++ map begun_place v.open_writes))) e₄.0);
            shown_next = i.shown_next;
            state = i.state;
          }

  finish_holds : (v : Live) (l : Ledger) (ticket : ℕ) → Invariant n opening v l → Good l (finish ticket) (finished v ticket (find ticket v.open_writes))
  finish_holds v l ticket i = go (find ticket v.open_writes) refl
    where
      go : (o : Option Begun) → find ticket v.open_writes ≡ o → Good l (finish ticket) (finished v ticket o)
      go none e = i
      go (some o) e = subst (λ x. Invariant n opening (finished v ticket (some o)).live (now_finished l ticket x))
          (sym (ap (find ticket) i.same_open ∙ e))
          (record {
            same_open = ap (without ticket) i.same_open;
            same_since = ap (collect o.write) i.same_since;
            table = table_finish n v.open_writes l.finished v.collected v.counter i.table ticket o e;
            shown_next = shown_finish n v.open_writes l.finished v.collected v.counter i.table opening
                (laid opening (last_sealed l.under_way l.committed)) ticket o e i.shown_next;
            state = i.state;
          })

  withdraw_holds : (v : Live) (l : Ledger) (ticket : ℕ) → Invariant n opening v l → Good l (withdraw ticket) (withdrawn v ticket (find ticket v.open_writes))
  withdraw_holds v l ticket i = go (find ticket v.open_writes)
    where
      go : (o : Option Begun) → Good l (withdraw ticket) (withdrawn v ticket o)
      go none = i
      go (some o) = record {
        same_open = ap (without ticket) i.same_open;
        same_since = i.same_since;
        table = table_withdraw n v.open_writes l.finished v.collected v.counter i.table ticket;
        shown_next = i.shown_next;
        state = i.state;
      }

  read_holds : (device : Device) (v : Live) (l : Ledger) (place room : ℕ) → Invariant n opening v l →
      Good l (read place room) (decided (read_refusal n place room) (read_shown device v place room (cached place (v.collected ++ group_writes v.group))) v)
  read_holds device v l place room i = decided_both (Good l (read place room)) (read_refusal n place room)
      (read_shown device v place room (cached place (v.collected ++ group_writes v.group))) v (λ _. go (cached place (v.collected ++ group_writes v.group))) (λ x. i)
    where
      by_fate : (f : Fate) → Good l (read place room) (read_disk device v place f)
      by_fate wrong_length = met_holds v l v.medium refl refl i
      by_fate wrong_place = met_holds v l v.medium refl refl i
      by_fate failed = met_holds v l (passed v.medium) refl refl i
      by_fate served = met_holds v l (passed v.medium) refl refl i

      go : (b : Option Block) → Good l (read place room) (read_shown device v place room b)
      go (some b) = i
      go none = by_fate (fate v.medium place room)

  -- what is collected can be named by a head
  sealed_names : (v : Live) (l : Ledger) → Invariant n opening v l → eqb (length v.collected) 0 ≡ false → v.last < 4_294_967_295 →
      Names n (suc v.last) v.collected
  sealed_names v l i some-collected room = record {
    decodes = decode_encode n (head_of (suc v.last) v.collected) small
        (parts_fit n (head_of (suc v.last) v.collected) (record { number = omega arith; few = few; below = i.table.inside; apart = i.table.once }));
    blank = blank_decodes n (suc v.last) small (omega arith);
    few = omega (arith, few, length-map v.collected place_of);
    many = omega (arith, eqb-false (length v.collected) 0 some-collected);
    inside = λ j lj. subst (λ x. x < n) (get_d_places v.collected j lj)
        (inside_all n (map place_of v.collected) j i.table.inside (omega (arith, lj, length-map v.collected place_of)));
  }
    where
      left : (a b : Bool) → a ≡ true → cond a true b ≡ true
      left a b e = ap (λ z. cond z true b) e

      few : length (map place_of v.collected) ≤ 8
      few = omega (
        arith,
        length_different n (map place_of v.collected) i.table.once i.table.inside,
        different_mono n (map place_of v.collected) (map place_of v.collected ++ map begun_place v.open_writes)
            (λ q h. holds_append q (map place_of v.collected) (map begun_place v.open_writes)
            ∙ left (holds q (map place_of v.collected)) (holds q (map begun_place v.open_writes)) h),
        i.table.room,
      )

  -- the group just sealed, over an idle volume
  sealed_state : (v : Live) (l : Ledger) → Names n (suc v.last) v.collected → l.since ≡ v.collected → (g : Option Group) (u : Option UnderWay) → is_some g ≡ false →
      lay (laid opening (last_sealed u l.committed)) v.collected ≡ laid opening l.finished →
      State n opening v.medium.firm v.medium.loose v.last g u l.committed →
      State n opening v.medium.firm v.medium.loose (suc v.last)
      (some (record { number = suc v.last; writes = v.collected; phase = slot 0 }))
      (some (record { sealing = record { number = suc v.last; writes = l.finished }; blocks = length l.since; phase = slot 0 })) l.committed
  sealed_state v l names since (some g) u e r a = absurd (both_ways true e refl)
  sealed_state v l names since none (some u) e r a = absurd a
  sealed_state v l names since none none e r (last, blank, h) = (
    refl,
    refl,
    ap length since,
    refl,
    names,
    (
      record { next = next; blank = blank },
      names.many,
      (
        false,
        kept_mono (n + 9) (Idle n l.committed.number (content opening l.committed))
            (Logged n l.committed.number (suc v.last) v.collected (content opening l.committed) false false) v.medium
            (λ p x q. record { home = q.home; heading = λ z. inl (q.heading z); slot = λ z. absurd (both_ways true (sym z) refl) }) h,
        λ j lj. absurd (omega arith),
      ),
    ),
  )
    where
      next : (p : ℕ) → p < n → over v.collected p (content opening l.committed p) ≡ get_or (laid opening l.finished) p []
      next p lp =
          sym (get_d_lay v.collected (laid opening l.committed.writes) p
          (subst (λ x. p < x) (sym (length_lay opening (map write_of (by_mark l.committed.writes)) ∙ size)) lp))
          ∙ ap (λ bs. get_or bs p []) r

  seal_holds : (v : Live) (l : Ledger) → Invariant n opening v l → Good l seal (decided (seal_refusal v) (sealed v) v)
  seal_holds v l i = decided_both (Good l seal) (seal_refusal v) (sealed v) v accept (λ x. i)
    where
      accept : seal_refusal v ≡ none → Good l seal (sealed v)
      accept e =
          let e₁ = passed_test (is_some v.group) _ _ e in
          let e₂ = passed_test (eqb (length v.collected) 0) _ _ e₁.1 in
          let e₃ = passed_test (leb 4_294_967_295 v.last) _ _ e₂.1 in
          record {
            same_open = i.same_open;
            same_since = refl;
            table = table_seal n v.open_writes l.finished v.collected v.counter i.table;
            shown_next = refl;
            state = sealed_state v l (sealed_names v l i e₂.0 (leb-false 4_294_967_295 v.last e₃.0)) i.same_since v.group l.under_way e₁.0 i.shown_next i.state;
          }

  step_answered : (l : Ledger) (c : DiskCall) → step_noted l (good_answer c) ≡ moved l l.under_way
  step_answered l (write w) = refl
  step_answered l flush = refl

  step_holds : (device : Device) (v : Live) (l : Ledger) → Invariant n opening v l → Good l step (stepped n device v v.group)
  step_holds device v l i = go v.group l.under_way refl i.state
    where
      go : (g : Option Group) (u : Option UnderWay) → l.under_way ≡ u →
          State n opening v.medium.firm v.medium.loose v.last g u l.committed → Good l step (stepped n device v g)
      go none u e a = i
      go (some g) none e a = absurd a
      go (some g) (some u) e (is_last, number, blocks, phase, names, a) = by_fate (call_fate v.medium call)
        where
          call : DiskCall
          call = phase_call n g g.phase

          m' : Medium
          m' = good_medium device.effect call v.medium

          v' : Live
          v' = with_group v m' (in_phase g (next_phase (length g.writes) g.phase))

          ledger_is : note l step (accepted (good_answer call))
              ≡ with_under_way l (committed_by u l.committed g.phase) (in_phase_now u (next_phase (length g.writes) g.phase))
          ledger_is = step_answered l call ∙ ap (moved l) e
              ∙ ap (λ b. with_under_way l (committed_by u l.committed u.phase) (in_phase_now u (next_phase b u.phase))) blocks
              ∙ ap (λ ph. with_under_way l (committed_by u l.committed ph) (in_phase_now u (next_phase (length g.writes) ph))) phase

          stays : (m : Medium) → m.firm ≡ v.medium.firm → m.loose ≡ v.medium.loose → Invariant n opening (with_group v m (some g)) l
          stays m q r = record {
            same_open = i.same_open;
            same_since = i.same_since;
            table = i.table;
            shown_next = i.shown_next;
            state = subst (λ x. State n opening m.firm m.loose v.last (some g) x l.committed) (sym e)
                (subst (λ x. State n opening x m.loose v.last (some g) (some u) l.committed) (sym q)
                (subst (λ x. State n opening v.medium.firm x v.last (some g) (some u) l.committed) (sym r) (is_last, number, blocks, phase, names, a)));
          }

          by_fate : (f : Fate) → Good l step (step_met device v g call f)
          by_fate wrong_length = stays v.medium refl refl
          by_fate wrong_place = stays v.medium refl refl
          by_fate failed = stays (passed v.medium) refl refl
          by_fate served = subst (λ x. Invariant n opening v' x) (sym ledger_is) (record {
            same_open = i.same_open;
            same_since = i.same_since;
            table = i.table;
            shown_next =
                ap (λ ws. lay (laid opening ws) v.collected) (phase_sealed n opening g u l.committed names v.last is_last number blocks g.phase v.medium a)
                ∙ subst (λ x. lay (laid opening (last_sealed x l.committed)) v.collected ≡ laid opening l.finished) e i.shown_next;
            state = phase_step n opening g u l.committed names v.last is_last number blocks device.effect g.phase v.medium a;
          })

  restart_holds : (choice : ℕ) (v : Live) (l : Ledger) → Invariant n opening v l →
      Good l (restart choice) (record { answer = accepted 0; live = with_group v (cut choice v.medium) (group_restarted v.group) })
  restart_holds choice v l i = go v.group l.under_way refl i.state
    where
      go : (g : Option Group) (u : Option UnderWay) → l.under_way ≡ u →
          State n opening v.medium.firm v.medium.loose v.last g u l.committed →
          Invariant n opening (with_group v (cut choice v.medium) (group_restarted g)) (gone_back l l.under_way)
      go none none e (last, blank, h) = subst (λ x. Invariant n opening (with_group v (cut choice v.medium) none) (gone_back l x)) (sym e) (record {
        same_open = i.same_open;
        same_since = i.same_since;
        table = i.table;
        shown_next = i.shown_next;
        state = subst (λ x. State n opening (cut choice v.medium).firm [] v.last none x l.committed) (sym e)
            (last, blank, kept_cut (n + 9) (Idle n l.committed.number (content opening l.committed)) choice v.medium h);
      })
      go none (some u) e a = absurd a
      go (some g) none e a = absurd a
      go (some g) (some u) e (is_last, number, blocks, phase, names, a) =
          subst (λ x. Invariant n opening (with_group v (cut choice v.medium) (group_restarted (some g))) (gone_back l x)) (sym e) (record {
            same_open = i.same_open;
            same_since = i.same_since;
            table = i.table;
            shown_next = subst (λ x. lay (laid opening (last_sealed x l.committed)) v.collected ≡ laid opening l.finished) e i.shown_next;
            state = (is_last, number, blocks, ap restarted_phase phase, names, rephase (restarted_phase g.phase) (phase_restart n opening g u.sealing l.committed names g.phase choice v.medium a));
          })
        where
          m' : Medium
          m' = cut choice v.medium

          rephase : (ph : Phase) → InPhase n opening g u.sealing l.committed m'.firm m'.loose ph →
              InPhase n opening (record { number = g.number; writes = g.writes; phase = restarted_phase g.phase }) u.sealing l.committed m'.firm m'.loose ph
          rephase ph a = same_phase n opening g (record { number = g.number; writes = g.writes; phase = restarted_phase g.phase }) u.sealing l.committed m'.firm m'.loose refl refl ph a

  pub call_holds : (device : Device) (v : Live) (l : Ledger) (call : Call) → Invariant n opening v l → Good l call (outcome_in n device v call)
  call_holds device v l (begin place bytes) i = begin_holds v l place bytes i
  call_holds device v l (finish ticket) i = finish_holds v l ticket i
  call_holds device v l (withdraw ticket) i = withdraw_holds v l ticket i
  call_holds device v l (read place room) i = read_holds device v l place room i
  call_holds device v l seal i = seal_holds v l i
  call_holds device v l step i = step_holds device v l i
  call_holds device v l (restart choice) i = restart_holds choice v l i
