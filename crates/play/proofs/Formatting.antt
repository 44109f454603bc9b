-- A format over a disk whose writes join.
use Rattle.std.proofs.Common.{◌≡◌, ℕ, ◌+◌, ◌<◌, ◌≤◌, true, false, cond, List, [], ◌∷◌, length, get_or, set, is_err, Err, sym, refl, ap, ◌∙◌, subst, arith, le-ltb}
use Rattle.std.proofs.lemmas.List.{get_or-set_same}
use borrow.Author.Tests.{clash}
use Rattle.disk.specs.Medium.{Write, Entry, good, bad, Medium, join, size, due, later, lay, standing, current, passed, flushed, put}
use Rattle.disk.specs.declared.error.Kind.TheVariants as kind
use Rattle.errors.specs.declared.VolumeError.TheVariants as volume
use Rattle.head.specs.Head.{encode, decode, empty_head}
use Rattle.journal_law.specs.Recovery.{home_blocks, head_write, by_entry, fault, Formatted, format_flush, format_write, formatted, head_seen, recovered}
use Rattle.journal_law.specs.Cache.{opened}
use Rattle.journal_law.specs.Laws.{JustRecovered, no_call, between}
use Rattle.journal_law.proofs.Media.{length_lay, current_wrote, wrote_plan, length_wrote}
use Rattle.journal_law.proofs.Start.{blank_decodes}
use Rattle.play.specs.Histories.{Recoverable}
use Rattle.play.specs.InJournal.{is_fault, format_faults, format_leaves}

-- what a part of a format came to, of a medium m: a fault took an entry off the plan, or it went through and left `done`
pub data Came (f : Formatted) (m done : Medium) : Type 0 where
  broken : is_fault f.answer ≡ true → is_err f.answer ≡ true → length f.medium.plan < length m.plan → size f.medium ≡ size m → Came f m done
  through : is_fault f.answer ≡ false → is_err f.answer ≡ false → f.medium ≡ done → Came f m done

flush_by : (tries : ℕ) (m : Medium) (es : List Entry) → m.plan ≡ es → Came (format_flush tries m) m (flushed m)
flush_by tries m [] e = subst (λ (f : Medium). Came (format_flush tries f) f (flushed f)) (λ i. record { firm = m.firm; loose = m.loose; plan = sym e i }) (through refl refl refl)
flush_by tries m (good ∷ es) e = subst (λ (f : Medium). Came (format_flush tries f) f (flushed f)) (λ i. record { firm = m.firm; loose = m.loose; plan = sym e i }) (through refl refl refl)
flush_by tries m (bad ∷ es) e =
    subst (λ (f : Medium). Came (format_flush tries f) f (flushed f)) (λ i. record { firm = m.firm; loose = m.loose; plan = sym e i })
    (broken refl refl (omega arith) refl)

-- the flush after the head's write
then_flush : (tries : ℕ) (m k : Medium) → k.plan ≡ later m.plan → size k ≡ size m → Came (format_flush tries k) k (flushed k) → length (later m.plan) ≤ length m.plan →
    Came (format_flush tries k) m (flushed k)
then_flush tries m k plans sizes (broken f r h s) l = broken f r (omega (arith, ap length plans)) (s ∙ sizes)
then_flush tries m k plans sizes (through f r h) l = through f r h

later_shorter : (es : List Entry) → length (later es) ≤ length es
later_shorter [] = omega arith
later_shorter (e ∷ es) = omega arith

module _ (tries : ℕ) (m : Medium) where
  -- the medium after the head was written
  abbrev written : Medium
  written = put join m (head_write (home_blocks m) (empty_head 0))

  by_due : Entry → Formatted
  by_due e = by_entry e (format_flush tries written) (record { answer = Err (volume.Disk (fault tries kind.Write (home_blocks m))); medium = passed m })

  written_came : Came (format_flush tries written) m (flushed written)
  written_came =
      let plans = wrote_plan join (head_write (home_blocks m) (empty_head 0)) m in
      then_flush tries m written plans (length_wrote join (head_write (home_blocks m) (empty_head 0)) m) (flush_by tries written written.plan refl) (later_shorter m.plan)

  write_by : (es : List Entry) → m.plan ≡ es → Came (format_write tries (home_blocks m) join m) m (flushed written)
  unfolding by_due
  write_by [] e = subst (λ d. Came (by_due d) m (flushed written)) (sym (ap due e)) written_came
  write_by (good ∷ es) e = subst (λ d. Came (by_due d) m (flushed written)) (sym (ap due e)) written_came
  write_by (bad ∷ es) e =
      let long : length m.plan ≡ length (bad ∷ es) = ap length e in
      let short : length (later m.plan) ≡ length es = ap (λ xs. length (later xs)) e in
      subst (λ d. Came (by_due d) m (flushed written)) (sym (ap due e)) (broken refl refl (omega arith) refl)

  -- a format of a volume that is large enough
  pub format_came : 10 ≤ size m → Came (formatted tries join m) m (flushed (put join m (head_write (home_blocks m) (empty_head 0))))
  format_came room =
      let refused : Formatted = record { answer = Err volume.TooSmall; medium = m } in
      subst (λ t. Came (cond t refused (format_write tries (home_blocks m) join m)) m (flushed written)) (sym (le-ltb (size m) 10 room)) (write_by m.plan refl)

  pub format_shorter : 10 ≤ size m → format_faults tries m ≡ true → (length (format_leaves tries m).plan < length m.plan) × (10 ≤ size (format_leaves tries m))
  format_shorter room e = by (format_came room)
    where
      by : Came (formatted tries join m) m (flushed written) → (length (format_leaves tries m).plan < length m.plan) × (10 ≤ size (format_leaves tries m))
      by (broken f r h s) = (h, omega (arith, s))
      by (through f r h) = absurd (clash (sym f ∙ e))

  -- a format is refused by a fault alone
  pub format_refused : 10 ≤ size m → is_err (formatted tries join m).answer ≡ format_faults tries m
  format_refused room = by (format_came room)
    where
      by : Came (formatted tries join m) m (flushed written) → is_err (formatted tries join m).answer ≡ format_faults tries m
      by (broken f r h s) = r ∙ sym f
      by (through f r h) = r ∙ sym f

  pub format_done : 10 ≤ size m → format_faults tries m ≡ false → format_leaves tries m ≡ flushed (put join m (head_write (home_blocks m) (empty_head 0)))
  format_done room e = by (format_came room)
    where
      by : Came (formatted tries join m) m (flushed written) → format_leaves tries m ≡ flushed written
      by (broken f r h s) = absurd (clash (sym e ∙ f))
      by (through f r h) = h

-- an idle volume of number 0, as some recovery may have left it
pub idle_recoverable : (n : ℕ) (m : Medium) → 1 ≤ n → n ≤ 4087 → size m ≡ n + 9 → m.loose ≡ [] → get_or m.firm n [] ≡ encode (empty_head 0) → Recoverable m
idle_recoverable n m some few sized quiet headed =
    let before : Medium = record { firm = m.firm; loose = []; plan = good ∷ (good ∷ m.plan) } in
    let seen : head_seen (decode n (get_or m.firm n [])) ≡ recovered 0 = ap (λ b. head_seen (decode n b)) headed ∙ ap head_seen (blank_decodes n 0 (omega arith) (omega arith)) in
    let start : JustRecovered n 0 m = record {
      home_blocks = (some, few);
      before = before;
      sized = sized;
      effects = join ∷ (join ∷ []);
      success = λ i. record { stage = seen i; medium = record { firm = m.firm; loose = sym quiet i; plan = m.plan } };
    } in
    record {
      homes = n;
      number = 0;
      opening = m;
      events = [];
      left = record {
        start = start;
        live = opened n 0 m;
        ran = no_call;
        at_failure = m;
        fails = between;
        choice = 0;
        broken = [];
        medium_is =
            (λ i. record { firm = m.firm; loose = quiet i; plan = m.plan }) ∙
            sym (ap (λ ws. record { firm = lay m.firm (standing 0 ws); loose = []; plan = m.plan }) quiet);
      };
    }

-- a volume that was formatted can be recovered
pub format_recoverable : (tries : ℕ) (m : Medium) → 10 ≤ size m → size m ≤ 4096 → format_faults tries m ≡ false → Recoverable (format_leaves tries m)
format_recoverable tries m room few e =
    let n = home_blocks m in
    let w : Write = head_write n (empty_head 0) in
    let k = put join m w in
    let long : length (lay k.firm k.loose) ≡ length m.firm = length_lay k.firm k.loose ∙ length_wrote join w m in
    let shown : current k ≡ set (current m) n (encode (empty_head 0)) = current_wrote join w m in
    let headed = ap (λ bs. get_or bs n []) shown ∙ get_or-set_same (current m) n (encode (empty_head 0)) [] (omega (arith, length_lay m.firm m.loose)) in
    subst Recoverable (sym (format_done tries m room e)) (idle_recoverable n (flushed k) (omega arith) (omega arith) (omega arith) refl headed)
