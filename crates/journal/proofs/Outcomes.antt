-- What the tests and parts of each call say of the model.
use Rattle.std.proofs.Common.{◌≡◌, ℕ, suc, ◌+◌, Bool, true, false, cond, not, eqb, ltb, leb, List, [], ◌∷◌, ◌++◌, map, length, is_some as option_is_some, Some, None, Ok, Err, Option, Result, sym, refl, ap, ◌∙◌, subst, add-one}
use mathlib.Core.Option.{Option as Maybe, some, none}
use Rattle.std.proofs.Math.Option.{none-ne-some}
use Rattle.std.specs.Option.{option_map}
use Rattle.batch.specs.declared.entry.Entry.{Entry}
use Rattle.batch.specs.Options.{maybe}
use Rattle.batch.specs.Rows.{begun_in, write_list}
use Rattle.disk.specs.declared.error.Kind.TheVariants as kind
use Rattle.disk.specs.declared.error.DiskError.{DiskError}
use Rattle.disk.specs.Medium.{Block, Write, Effect, Medium, passed, cut}
use Rattle.disk.specs.Calls as disk
use Rattle.disk.specs.Calls.{Fate, served, failed, wrong_length, wrong_place, fate, leaves, shows}
use Rattle.errors.specs.declared.CacheCall.TheVariants as during
use Rattle.errors.specs.declared.CacheError.{CacheError}
use Rattle.errors.specs.declared.CacheError.TheVariants as error
use Rattle.errors.specs.Errors.{raised, during_call}
use Rattle.head.specs.Head.{holds}
use Rattle.journal_law.specs.Device.{Device}
use Rattle.journal_law.specs.Cache.{Begun, Group, Live, opened, Call, begin, finish, withdraw, read, seal, step, restart, Answer, accepted, shown, refused, Outcome, decided, place_of, begun_place, different, begun, find, without, collect, finished, withdrawn, cached, group_writes, read_disk, read_shown, is_some, sealed, DiskCall, phase_call, next_phase, in_phase, good_answer, call_fate, call_answer, good_medium, asked_write, step_met, stepped, group_restarted, slot, slots_flush, home, homes_flush, step_asks, group_asks, with_medium, outcome, with_group}
use Rattle.journal_law.specs.Recovery.{home_blocks}
use Rattle.journal_law.specs.Laws.{JustRecovered, Ran, no_call, Laws, RunsOn}
use Rattle.journal_volume.specs.Recovering.{with_number}
use Rattle.journal.specs.Ends.{Starts}
use Rattle.journal_law.proofs.Running.{lawful_runs, runs_on}
use Rattle.group.specs.declared.phase.Phase.{Phase}
use Rattle.group.specs.declared.phase.Phase.TheVariants as phase
use Rattle.group.specs.declared.group.Group.{Group as CodeGroup}
use Rattle.group.specs.declared.under_way.UnderWay.{UnderWay}
use Rattle.group.specs.declared.turn.Turn.{Turn}
use Rattle.errors.specs.Errors.{progress_number}
use Rattle.group.specs.Phases.{phase_of, wrote_to, next, advanced}
use Rattle.group.specs.Groups.{group_of, under_way, Makes}
use Rattle.journal.specs.Model.{read_as, filled}
use Rattle.journal.proofs.Rooms.{without_none}

-- a call came out as `o`: so its run goes on
pub runs_by : (device : Device) (call : Call) (v : Live) (o : Outcome) → o ≡ outcome device v call → RunsOn call v o.answer o.live
runs_by device call v o e = runs_on device call (ap (λ (x : Outcome). x.answer) e) (ap (λ (x : Outcome). x.live) e)

-- the cache with other tables
abbrev pub tables : Live → ℕ → List Begun → List Write → Live
tables v counter opens collected = record {
  medium = v.medium;
  home_count = v.home_count;
  counter = counter;
  open_writes = opens;
  collected = collected;
  group = v.group;
  last = v.last;
}

-- ---- begin

module _ (device : Device) (v : Live) (place : ℕ) (bytes : Block) where
  abbrev pub Long : Bool
  Long = not (eqb (length bytes) 512)

  abbrev pub Far : Bool
  Far = leb v.home_count place

  abbrev pub Taken : Bool
  Taken = holds place (map begun_place v.open_writes)

  abbrev pub Full : Bool
  Full = ltb 8 (different v.home_count (place ∷ (map place_of v.collected ++ map begun_place v.open_writes)))

  abbrev pub Late : Bool
  Late = ltb 1_000_000 (v.counter + length v.open_writes + 2)

  abbrev tested : Bool → Bool → Bool → Bool → Bool → Outcome
  tested a b c d e =
      decided (cond a (some error.Length) (cond b (some error.Place) (cond c (some error.PlaceOpen) (cond d (some error.NoRoom) (cond e (some error.NoMarks) none))))) (begun v place bytes) v

  begin_is : (a b c d e : Bool) → Long ≡ a → Far ≡ b → Taken ≡ c → Full ≡ d → Late ≡ e → tested a b c d e ≡ outcome device v (begin place bytes)
  begin_is a b c d e p q r s t =
      sym (ap (λ x. tested x Far Taken Full Late) p ∙ ap (λ x. tested a x Taken Full Late) q ∙ ap (λ x. tested a b x Full Late) r ∙ ap (λ x. tested a b c x Late) s ∙ ap (λ x. tested a b c d x) t)

  abbrev refusal : CacheError → Outcome
  refusal e = record { answer = refused e; live = v }

  pub begin_1 : Long ≡ true → refusal error.Length ≡ outcome device v (begin place bytes)
  begin_1 p = begin_is true Far Taken Full Late p refl refl refl refl

  pub begin_2 : Long ≡ false → Far ≡ true → refusal error.Place ≡ outcome device v (begin place bytes)
  begin_2 p q = begin_is false true Taken Full Late p q refl refl refl

  pub begin_3 : Long ≡ false → Far ≡ false → Taken ≡ true → refusal error.PlaceOpen ≡ outcome device v (begin place bytes)
  begin_3 p q r = begin_is false false true Full Late p q r refl refl

  pub begin_4 : Long ≡ false → Far ≡ false → Taken ≡ false → Full ≡ true → refusal error.NoRoom ≡ outcome device v (begin place bytes)
  begin_4 p q r s = begin_is false false false true Late p q r s refl

  pub begin_5 : Long ≡ false → Far ≡ false → Taken ≡ false → Full ≡ false → Late ≡ true → refusal error.NoMarks ≡ outcome device v (begin place bytes)
  begin_5 p q r s t = begin_is false false false false true p q r s t

  pub begin_0 : Long ≡ false → Far ≡ false → Taken ≡ false → Full ≡ false → Late ≡ false → (opens : List Begun) →
      opens ≡ v.open_writes ++ record { mark = v.counter + 1; write = record { place = place; bytes = bytes } } ∷ [] →
      record { answer = accepted (v.counter + 1); live = tables v (v.counter + 1) opens v.collected } ≡ outcome device v (begin place bytes)
  begin_0 p q r s t opens o =
      ap (λ (os : List Begun). record { answer = accepted (v.counter + 1); live = tables v (v.counter + 1) os v.collected }) o
      ∙ ap (λ k. record { answer = accepted k; live = tables v k (v.open_writes ++ record { mark = k; write = record { place = place; bytes = bytes } } ∷ []) v.collected }) (add-one v.counter)
      ∙ begin_is false false false false false p q r s t

-- ---- finish and withdraw

-- what a take of the open write says, when its answer is known
pub taken_some : {r : Option Entry} {e : Entry} {o : Maybe Begun} → r ≡ Some e → maybe (option_map begun_in r) ≡ o → some (begun_in e) ≡ o
taken_some is taken = ap (λ (r : Option Entry). maybe (option_map begun_in r)) (sym is) ∙ taken

pub taken_none : {r : Option Entry} {o : Maybe Begun} → r ≡ None → maybe (option_map begun_in r) ≡ o → none ≡ o
taken_none is taken = ap (λ (r : Option Entry). maybe (option_map begun_in r)) (sym is) ∙ taken

module _ (device : Device) (v : Live) (ticket : ℕ) (opens : List Begun) (rest : opens ≡ without ticket v.open_writes) where
  pub kept_opens : find ticket v.open_writes ≡ none → opens ≡ v.open_writes
  kept_opens e = rest ∙ without_none ticket v.open_writes e

  pub finish_none : none ≡ find ticket v.open_writes → record { answer = refused error.NoTicket; live = tables v v.counter opens v.collected } ≡ outcome device v (finish ticket)
  finish_none e =
      ap (λ (os : List Begun). record { answer = refused error.NoTicket; live = tables v v.counter os v.collected }) (kept_opens (sym e)) ∙ ap (finished v ticket) e

  pub finish_some : (o : Begun) → some o ≡ find ticket v.open_writes → (batch : List Write) → batch ≡ collect o.write v.collected →
      record { answer = accepted (v.counter + 1); live = tables v (v.counter + 1) opens batch } ≡ outcome device v (finish ticket)
  finish_some o e batch q =
      ap (λ (os : List Begun). record { answer = accepted (v.counter + 1); live = tables v (v.counter + 1) os batch }) rest
      ∙ ap (λ (ws : List Write). record { answer = accepted (v.counter + 1); live = tables v (v.counter + 1) (without ticket v.open_writes) ws }) q
      ∙ ap (λ k. record { answer = accepted k; live = tables v k (without ticket v.open_writes) (collect o.write v.collected) }) (add-one v.counter)
      ∙ ap (finished v ticket) e

  pub withdraw_none : none ≡ find ticket v.open_writes → record { answer = refused error.NoTicket; live = tables v v.counter opens v.collected } ≡ outcome device v (withdraw ticket)
  withdraw_none e =
      ap (λ (os : List Begun). record { answer = refused error.NoTicket; live = tables v v.counter os v.collected }) (kept_opens (sym e)) ∙ ap (withdrawn v ticket) e

  pub withdraw_some : (o : Begun) → some o ≡ find ticket v.open_writes → record { answer = accepted 0; live = tables v v.counter opens v.collected } ≡ outcome device v (withdraw ticket)
  withdraw_some o e =
      ap (λ (os : List Begun). record { answer = accepted 0; live = tables v v.counter os v.collected }) rest ∙ ap (withdrawn v ticket) e

-- ---- seal

pub under_some : (o : Option UnderWay) (b : Bool) → b ≡ option_is_some o → is_some (under_way o) ≡ b
under_some None b e = sym e
under_some (Some u) b e = sym e

module _ (device : Device) (v : Live) where
  abbrev seal_tested : Bool → Bool → Bool → Outcome
  seal_tested a b c = decided (cond a (some error.GroupUnderWay) (cond b (some error.NothingCollected) (cond c (some error.NoNumbers) none))) (sealed v) v

  abbrev seal_refusal_of : CacheError → Outcome
  seal_refusal_of e = record { answer = refused e; live = v }

  seal_is : (a b c : Bool) → is_some v.group ≡ a → eqb (length v.collected) 0 ≡ b → leb 4_294_967_295 v.last ≡ c → seal_tested a b c ≡ outcome device v seal
  seal_is a b c p q r =
      sym (ap (λ x. seal_tested x (eqb (length v.collected) 0) (leb 4_294_967_295 v.last)) p ∙ ap (λ x. seal_tested a x (leb 4_294_967_295 v.last)) q ∙ ap (λ x. seal_tested a b x) r)

  pub seal_9 : is_some v.group ≡ true → seal_refusal_of error.GroupUnderWay ≡ outcome device v seal
  seal_9 p = seal_is true (eqb (length v.collected) 0) (leb 4_294_967_295 v.last) p refl refl

  pub seal_8 : is_some v.group ≡ false → eqb (length v.collected) 0 ≡ true → seal_refusal_of error.NothingCollected ≡ outcome device v seal
  seal_8 p q = seal_is false true (leb 4_294_967_295 v.last) p q refl

  pub seal_10 : is_some v.group ≡ false → eqb (length v.collected) 0 ≡ false → leb 4_294_967_295 v.last ≡ true → seal_refusal_of error.NoNumbers ≡ outcome device v seal
  seal_10 p q r = seal_is false false true p q r

  pub seal_0 : is_some v.group ≡ false → eqb (length v.collected) 0 ≡ false → leb 4_294_967_295 v.last ≡ false → (batch : List Write) (g : Maybe Group) → batch ≡ [] → g ≡ some (record { number = v.last + 1; writes = v.collected; phase = slot 0 }) →
      record {
        answer = accepted (v.last + 1);
        live = record {
          medium = v.medium;
          home_count = v.home_count;
          counter = v.counter;
          open_writes = v.open_writes;
          collected = batch;
          group = g;
          last = v.last + 1;
        };
      } ≡ outcome device v seal
  seal_0 p q r batch g e f =
      ap (λ (o : Maybe Group). record {
        answer = accepted (v.last + 1);
        live = record {
          medium = v.medium;
          home_count = v.home_count;
          counter = v.counter;
          open_writes = v.open_writes;
          collected = batch;
          group = o;
          last = v.last + 1;
        };
      }) f
      ∙ ap (λ (xs : List Write). record {
        answer = accepted (v.last + 1);
        live = record {
          medium = v.medium;
          home_count = v.home_count;
          counter = v.counter;
          open_writes = v.open_writes;
          collected = xs;
          group = some (record { number = v.last + 1; writes = v.collected; phase = slot 0 });
          last = v.last + 1;
        };
      }) e
      ∙ ap (λ k. record {
        answer = accepted k;
        live = record {
          medium = v.medium;
          home_count = v.home_count;
          counter = v.counter;
          open_writes = v.open_writes;
          collected = [];
          group = some (record { number = k; writes = v.collected; phase = slot 0 });
          last = k;
        };
      }) (add-one v.last)
      ∙ seal_is false false false p q r

-- ---- step and restart

-- a group at a phase, or none
abbrev pub under_at : CodeGroup → Option Phase → Maybe Group
under_at G None = none
under_at G (Some p) = some (group_of G p)

abbrev turn_or : Turn → Result Turn CacheError → Turn
turn_or d (Ok t) = t
turn_or d (Err e) = d

abbrev IsOk : Result Turn CacheError → Type 0
IsOk (Ok t) = Unit {0}
IsOk (Err e) = ⊥

abbrev error_or : CacheError → Result Turn CacheError → CacheError
error_or d (Ok t) = d
error_or d (Err e) = e

abbrev Follows : ℕ → CodeGroup → Phase → ℕ → Turn → Type 0
Follows n G p blocks t =
    (under_at G t.phase ≡ in_phase (group_of G p) (next_phase blocks (phase_of p))) × (progress_number t.progress ≡ good_answer (phase_call n (group_of G p) (phase_of p)))

-- the turn that follows a good call is the model's
next_is : (n : ℕ) (G : CodeGroup) (p : Phase) (blocks : ℕ) (t : Turn) → next blocks p ≡ Ok t → Follows n G p blocks t
next_is n G (phase.Slot i) blocks t e = go (ltb (i + 1) blocks) (ap (λ k. ltb k blocks) (sym (add-one i))) e
  where
    go : (b : Bool) → ltb (suc i) blocks ≡ b → cond b (wrote_to (phase.Slot (i + 1))) (wrote_to phase.SlotsFlush) ≡ Ok t → Follows n G (phase.Slot i) blocks t
    go true q r = subst (Follows n G (phase.Slot i) blocks) (ap (turn_or t) r) (
      ap (λ k. in_phase (group_of G (phase.Slot i)) (some (slot k))) (add-one i) ∙ sym (ap (λ b. in_phase (group_of G (phase.Slot i)) (some (cond b (slot (suc i)) slots_flush))) q),
      refl,
    )
    go false q r = subst (Follows n G (phase.Slot i) blocks) (ap (turn_or t) r)
        (sym (ap (λ b. in_phase (group_of G (phase.Slot i)) (some (cond b (slot (suc i)) slots_flush))) q), refl)
next_is n G phase.SlotsFlush blocks t e = subst (Follows n G phase.SlotsFlush blocks) (ap (turn_or t) e) (refl, refl)
next_is n G phase.Head blocks t e = subst (Follows n G phase.Head blocks) (ap (turn_or t) e) (refl, refl)
next_is n G phase.HeadFlush blocks t e = subst (Follows n G phase.HeadFlush blocks) (ap (turn_or t) e) (refl, refl)
next_is n G (phase.Home i) blocks t e = go (ltb (i + 1) blocks) (ap (λ k. ltb k blocks) (sym (add-one i))) e
  where
    go : (b : Bool) → ltb (suc i) blocks ≡ b → cond b (wrote_to (phase.Home (i + 1))) (wrote_to phase.HomesFlush) ≡ Ok t → Follows n G (phase.Home i) blocks t
    go true q r = subst (Follows n G (phase.Home i) blocks) (ap (turn_or t) r) (
      ap (λ k. in_phase (group_of G (phase.Home i)) (some (home k))) (add-one i) ∙ sym (ap (λ b. in_phase (group_of G (phase.Home i)) (some (cond b (home (suc i)) homes_flush))) q),
      refl,
    )
    go false q r = subst (Follows n G (phase.Home i) blocks) (ap (turn_or t) r)
        (sym (ap (λ b. in_phase (group_of G (phase.Home i)) (some (cond b (home (suc i)) homes_flush))) q), refl)
next_is n G phase.HomesFlush blocks t e = subst (Follows n G phase.HomesFlush blocks) (ap (turn_or t) e) (refl, refl)
next_is n G phase.Empty blocks t e = subst (Follows n G phase.Empty blocks) (ap (turn_or t) e) (refl, refl)
next_is n G phase.EmptyFlush blocks t e = subst (Follows n G phase.EmptyFlush blocks) (ap (turn_or t) e) (refl, refl)

next_ok : (blocks : ℕ) (p : Phase) → IsOk (next blocks p)
next_ok blocks (phase.Slot i) = go (ltb (i + 1) blocks)
  where
    go : (b : Bool) → IsOk (cond b (wrote_to (phase.Slot (i + 1))) (wrote_to phase.SlotsFlush))
    go true = tt
    go false = tt
next_ok blocks phase.SlotsFlush = tt
next_ok blocks phase.Head = tt
next_ok blocks phase.HeadFlush = tt
next_ok blocks (phase.Home i) = go (ltb (i + 1) blocks)
  where
    go : (b : Bool) → IsOk (cond b (wrote_to (phase.Home (i + 1))) (wrote_to phase.HomesFlush))
    go true = tt
    go false = tt
next_ok blocks phase.HomesFlush = tt
next_ok blocks phase.Empty = tt
next_ok blocks phase.EmptyFlush = tt

module _ (v : Live) (G : CodeGroup) (p : Phase) (tries : ℕ) (rule : Write → Effect) (under : v.group ≡ under_at G (Some p)) where
  abbrev g : Group
  g = group_of G p

  abbrev call : DiskCall
  call = phase_call v.home_count g g.phase

  abbrev device : Device
  device = record { effect = rule (step_asks v); tries = tries }

  asks : rule (step_asks v) ≡ rule (asked_write call)
  asks = ap (λ o. rule (group_asks v.home_count o)) under

  step_is : (f : Fate) → call_fate v.medium call ≡ f → step_met device v g call f ≡ outcome device v step
  step_is f e = ap (step_met device v g call) (sym e) ∙ ap (stepped v.home_count device v) (sym under)

  module _ (blocks : ℕ) (ans : disk.Answer) (m' : Medium) (made : Makes rule tries call v.medium ans m') (count : blocks ≡ length g.writes) where
    pub step_ok : (t : Turn) → Ok t ≡ advanced blocks p (raised during.Step ans) →
        record { answer = accepted (progress_number t.progress); live = with_group v m' (under_at G t.phase) } ≡ outcome device v step
    step_ok t e = go (call_fate v.medium call) refl made.answers made.after
      where
        fails : (x : CacheError) → Ok t ≡ Err x → ⊥
        fails x q = subst IsOk q tt

        go : (f : Fate) → call_fate v.medium call ≡ f → ans ≡ call_answer tries call f → m' ≡ leaves v.medium (good_medium (rule (asked_write call)) call v.medium) f →
            record { answer = accepted (progress_number t.progress); live = with_group v m' (under_at G t.phase) } ≡ outcome device v step
        go served q a m =
            let follows : Follows v.home_count G p blocks t = next_is v.home_count G p blocks t (sym (e ∙ ap (λ x. advanced blocks p (raised during.Step x)) a)) in
            ap (λ k. record { answer = accepted k; live = with_group v m' (under_at G t.phase) }) follows.1
            ∙ ap (λ (o : Maybe Group). record { answer = accepted (good_answer call); live = with_group v m' o })
            (follows.0 ∙ ap (λ k. in_phase g (next_phase k (phase_of p))) count)
            ∙ ap (λ (x : Medium). record { answer = accepted (good_answer call); live = with_group v x (in_phase g (next_phase (length g.writes) (phase_of p))) })
            (m ∙ ap (λ x. good_medium x call v.medium) (sym asks))
            ∙ step_is served q
        go failed q a m = absurd (fails _ (e ∙ ap (λ x. advanced blocks p (raised during.Step x)) a))
        go wrong_length q a m = absurd (fails _ (e ∙ ap (λ x. advanced blocks p (raised during.Step x)) a))
        go wrong_place q a m = absurd (fails _ (e ∙ ap (λ x. advanced blocks p (raised during.Step x)) a))

    pub step_err : (x : CacheError) → Err x ≡ advanced blocks p (raised during.Step ans) →
        record { answer = refused x; live = with_group v m' v.group } ≡ outcome device v step
    step_err x e = go (call_fate v.medium call) refl made.answers made.after
      where
        by : (f : Fate) (d : DiskError) (m : Medium) → call_fate v.medium call ≡ f → call_answer tries call f ≡ Err d → ans ≡ call_answer tries call f → m' ≡ m →
            step_met device v g call f ≡ record { answer = refused (during_call during.Step d); live = with_group v m (some g) } →
            record { answer = refused x; live = with_group v m' v.group } ≡ outcome device v step
        by f d m q is a l out =
            ap (λ (y : CacheError). record { answer = refused y; live = with_group v m' v.group }) (ap (error_or x) (e ∙ ap (λ z. advanced blocks p (raised during.Step z)) (a ∙ is)))
            ∙ ap (λ (o : Maybe Group). record { answer = refused (during_call during.Step d); live = with_group v m' o }) under
            ∙ ap (λ (z : Medium). record { answer = refused (during_call during.Step d); live = with_group v z (some g) }) l
            ∙ sym out ∙ step_is f q

        go : (f : Fate) → call_fate v.medium call ≡ f → ans ≡ call_answer tries call f → m' ≡ leaves v.medium (good_medium (rule (asked_write call)) call v.medium) f →
            record { answer = refused x; live = with_group v m' v.group } ≡ outcome device v step
        go served q a m = absurd (subst IsOk (sym (e ∙ ap (λ z. advanced blocks p (raised during.Step z)) a)) (next_ok blocks p))
        go failed q a m = by failed _ _ q refl a m refl
        go wrong_length q a m = by wrong_length _ _ q refl a m refl
        go wrong_place q a m = by wrong_place _ _ q refl a m refl

pub step_idle : (device : Device) (v : Live) → v.group ≡ none → record { answer = accepted 0; live = v } ≡ outcome device v step
step_idle device v e = ap (stepped v.home_count device v) (sym e)

pub restart_by : (device : Device) (v : Live) (choice : ℕ) (m : Medium) (o : Maybe Group) → m ≡ cut choice v.medium → o ≡ group_restarted v.group →
    record { answer = accepted 0; live = with_group v m o } ≡ outcome device v (restart choice)
restart_by device v choice m o e f =
    ap (λ (x : Medium). record { answer = accepted 0; live = with_group v x o }) e
    ∙ ap (λ (x : Maybe Group). record { answer = accepted 0; live = with_group v (cut choice v.medium) x }) f

-- ---- read

cached_first : (place : ℕ) (xs ys : List Write) (b : Block) → cached place xs ≡ some b → cached place (xs ++ ys) ≡ some b
cached_first place [] ys b e = absurd (none-ne-some b e)
cached_first place (x ∷ xs) ys b e = go (eqb x.place place) e (cached_first place xs ys b)
  where
    go : (t : Bool) → cond t (some x.bytes) (cached place xs) ≡ some b → (cached place xs ≡ some b → cached place (xs ++ ys) ≡ some b) → cond t (some x.bytes) (cached place (xs ++ ys)) ≡ some b
    go true f r = f
    go false f r = r f

cached_later : (place : ℕ) (xs ys : List Write) → cached place xs ≡ none → cached place (xs ++ ys) ≡ cached place ys
cached_later place [] ys e = refl
cached_later place (x ∷ xs) ys e = go (eqb x.place place) e (cached_later place xs ys)
  where
    go : (t : Bool) → cond t (some x.bytes) (cached place xs) ≡ none → (cached place xs ≡ none → cached place (xs ++ ys) ≡ cached place ys) → cond t (some x.bytes) (cached place (xs ++ ys)) ≡ cached place ys
    go true f r = absurd (none-ne-some x.bytes (sym f))
    go false f r = r f

pub cached_collected : (place : ℕ) (xs ys : List Write) (b : Block) → some b ≡ cached place xs → some b ≡ cached place (xs ++ ys)
cached_collected place xs ys b e = sym (cached_first place xs ys b (sym e))

pub cached_grouped : (place : ℕ) (xs ys : List Write) (o : Maybe Block) → none ≡ cached place xs → o ≡ cached place ys → o ≡ cached place (xs ++ ys)
cached_grouped place xs ys o e f = f ∙ sym (cached_later place xs ys (sym e))

module _ (device : Device) (v : Live) (place room : ℕ) where
  abbrev held : Maybe Block
  held = cached place (v.collected ++ group_writes v.group)

  abbrev read_tested : Bool → Bool → Maybe Block → Outcome
  read_tested a b o = decided (cond a (some error.Length) (cond b (some error.Place) none)) (read_shown device v place room o) v

  read_is : (a b : Bool) (o : Maybe Block) → not (eqb room 512) ≡ a → leb v.home_count place ≡ b → held ≡ o → read_tested a b o ≡ outcome device v (read place room)
  read_is a b o p q r = sym (ap (λ x. read_tested x (leb v.home_count place) held) p ∙ ap (λ x. read_tested a x held) q ∙ ap (read_tested a b) r)

  -- what a read came out as, and the buffer after it
  pub record ReadOut (buffer : List ℕ) (a : Answer) (after : List ℕ) (w : Live) : Type 0 where
    pub outcome_is : record { answer = a; live = w } ≡ outcome device v (read place room)
    pub buffer_is : after ≡ filled buffer (outcome device v (read place room)).answer

  read_out : (buffer : List ℕ) (a : Answer) (after : List ℕ) (w : Live) → record { answer = a; live = w } ≡ outcome device v (read place room) → after ≡ filled buffer a → ReadOut buffer a after w
  read_out buffer a after w e f = record { outcome_is = e; buffer_is = f ∙ ap (λ (o : Outcome). filled buffer o.answer) e }

  pub read_1 : (buffer : List ℕ) → not (eqb room 512) ≡ true → ReadOut buffer (refused error.Length) buffer v
  read_1 buffer p = read_out buffer (refused error.Length) buffer v (read_is true (leb v.home_count place) held p refl refl) refl

  pub read_2 : (buffer : List ℕ) → not (eqb room 512) ≡ false → leb v.home_count place ≡ true → ReadOut buffer (refused error.Place) buffer v
  read_2 buffer p q = read_out buffer (refused error.Place) buffer v (read_is false true held p q refl) refl

  pub read_held : (buffer b after : List ℕ) → not (eqb room 512) ≡ false → leb v.home_count place ≡ false → some b ≡ held → after ≡ b → ReadOut buffer (shown after) after v
  read_held buffer b after p q r e =
      subst (λ x. ReadOut buffer (shown x) x v) (sym e) (read_out buffer (shown b) b v (read_is false false (some b) p q (sym r)) refl)

  pub read_through : (buffer after : List ℕ) (ans : disk.Answer) (m : Medium) (r : Result (Unit {0}) CacheError) → not (eqb room 512) ≡ false → leb v.home_count place ≡ false → none ≡ held →
      disk.Reads device.tries v.medium place buffer ans m after → length buffer ≡ room → r ≡ raised during.Read ans → ReadOut buffer (read_as r after) after (with_medium v m)
  read_through buffer after ans m r p q h d whole e = go (fate v.medium place (length buffer)) refl d.answers d.after d.buffer
    where
      out : (f : Fate) → fate v.medium place (length buffer) ≡ f → read_disk device v place f ≡ outcome device v (read place room)
      out f z = ap (read_disk device v place) (sym z ∙ ap (fate v.medium place) whole) ∙ read_is false false none p q (sym h)

      by : (f : Fate) (x : CacheError) → fate v.medium place (length buffer) ≡ f → raised during.Read (disk.answer device.tries kind.Read place f) ≡ Err x → after ≡ buffer →
          (leave : Medium) → m ≡ leave → ans ≡ disk.answer device.tries kind.Read place f → read_disk device v place f ≡ record { answer = refused x; live = with_medium v leave } →
          ReadOut buffer (read_as r after) after (with_medium v m)
      by f x z is b leave l a o =
          subst (λ y. ReadOut buffer (read_as y after) after (with_medium v m)) (sym (e ∙ ap (raised during.Read) a ∙ is))
          (read_out buffer (refused x) after (with_medium v m) (ap (λ (y : Medium). record { answer = refused x; live = with_medium v y }) l ∙ sym o ∙ out f z) b)

      go : (f : Fate) → fate v.medium place (length buffer) ≡ f → ans ≡ disk.answer device.tries kind.Read place f → m ≡ leaves v.medium (passed v.medium) f →
          after ≡ shows v.medium place buffer f → ReadOut buffer (read_as r after) after (with_medium v m)
      go served z a l b =
          subst (λ y. ReadOut buffer (read_as y after) after (with_medium v m)) (sym (e ∙ ap (raised during.Read) a))
          (read_out buffer (shown after) after (with_medium v m)
          (ap (λ (y : Medium). record { answer = shown after; live = with_medium v y }) l ∙ ap (λ (y : List ℕ). record { answer = shown y; live = with_medium v (passed v.medium) }) b ∙ out served z) refl)
      go failed z a l b = by failed _ z refl b _ l a refl
      go wrong_length z a l b = by wrong_length _ z refl b _ l a refl
      go wrong_place z a l b = by wrong_place _ z refl b _ l a refl

-- what the group holds for a read
pub some_group : (o : Option UnderWay) (u : UnderWay) → o ≡ Some u → group_writes (under_way o) ≡ write_list u.group.writes
some_group o u e = ap (λ x. group_writes (under_way x)) e

-- ---- the making

abbrev number_or : ℕ → Option ℕ → ℕ
number_or d None = d
number_or d (Some k) = k

pub just_made : (m m₀ : Medium) (accepted' : Option ℕ) (v : Live) → m ≡ m₀ → v.medium ≡ m → v.home_count ≡ home_blocks m → v.counter ≡ 0 → v.open_writes ≡ [] → v.collected ≡ [] →
    v.group ≡ none → accepted' ≡ with_number v.last → Starts accepted' m₀ v
just_made m m₀ acc v same a b c d e f h = record { empty = empty; runs = runs }
  where
    empty : (j : ℕ) → acc ≡ with_number j → v ≡ opened (home_blocks m₀) j m₀
    empty j q = λ i. record {
      medium = (a ∙ same) i;
      home_count = (b ∙ ap home_blocks same) i;
      counter = c i;
      open_writes = d i;
      collected = e i;
      group = f i;
      last = ap (number_or j) (sym h ∙ q) i;
    }

    runs : (j : ℕ) → acc ≡ with_number j → JustRecovered (home_blocks m₀) j m₀ → Ran (opened (home_blocks m₀) j m₀) [] v × Laws (home_blocks m₀) j m₀ [] v
    runs j q r =
        let ran : Ran (opened (home_blocks m₀) j m₀) [] v = subst (Ran (opened (home_blocks m₀) j m₀) []) (sym (empty j q)) no_call in
        (ran, lawful_runs (home_blocks m₀) j m₀ [] v r ran)
