-- A read shows the finished writes laid on the opening blocks by begin mark.
use Rattle.std.proofs.Common.{◌≡◌, ℕ, ◌+◌, ◌<◌, Bool, true, false, cond, not, eqb, leb, List, [], ◌∷◌, ◌++◌, map, length, get_or, sym, refl, ap, ◌∙◌, subst, arith}
use mathlib.Core.Option.{Option, some, none}
use Rattle.std.proofs.Math.Option.{none-ne-some, some-injective}
use Rattle.std.proofs.lemmas.Bool.{eqb-true, ne_eqb, leb-false}
use Rattle.disk.specs.Medium.{Block, Write, Medium, current}
use Rattle.disk.specs.Calls.{Fate, fate, served, failed, wrong_length, wrong_place}
use Rattle.errors.specs.declared.CacheError.TheVariants as error
use Rattle.journal_law.specs.Device.{Device}
use Rattle.head.specs.Head.{none_twice}
use Rattle.journal_law.specs.Cache.{Phase, slot, slots_flush, head, head_flush, home, homes_flush, empty, empty_flush, Group, Live, read, Answer, accepted, shown, refused, place_of, decided, cached, group_writes, read_shown, read_disk, outcome_in}
use Rattle.journal_law.specs.Ledger.{Sealing, UnderWay, Ledger, laid, write_of, by_mark}
use Rattle.std.specs.List.{AllByRecursion}
use Rattle.journal_law.proofs.Media.{Keeps, kept_current, over, get_d_lay, length_lay}
use Rattle.journal_law.proofs.Forms.{head_of, Idle, Logged, Replayed, Cleared}
use Rattle.head.proofs.RoundTrip.{decode_sound}
use Rattle.journal_law.proofs.Start.{fits_parts}
use Rattle.journal_law.proofs.Tables.{fresh_places, once_parts}
use Rattle.journal_law.proofs.Invariant.{content, InPhase, State, last_sealed, Invariant}

over_fresh : (ws : List Write) (p : ℕ) (x : Block) → AllByRecursion (λ (w : Write). w.place ≡ p → ⊥) ws → over ws p x ≡ x
over_fresh [] p x a = refl
over_fresh (w ∷ ws) p x a = ap (λ b. over ws p (cond b w.bytes x)) (ne_eqb w.place p a.0) ∙ over_fresh ws p x a.1

-- what is cached for a place is what the writes leave there
cached_some : (ws : List Write) (p : ℕ) (b x : Block) → none_twice (map place_of ws) ≡ true → cached p ws ≡ some b → over ws p x ≡ b
cached_some [] p b x once e = absurd (none-ne-some b e)
cached_some (w ∷ ws) p b x once e = go (eqb w.place p) refl e (cached_some ws p b x (once_parts w.place (map place_of ws) once).1)
  where
    go : (t : Bool) → eqb w.place p ≡ t → cond t (some w.bytes) (cached p ws) ≡ some b → (cached p ws ≡ some b → over ws p x ≡ b) →
        over ws p (cond t w.bytes x) ≡ b
    go true q f r = over_fresh ws p w.bytes
        (subst (λ z. AllByRecursion (λ (y : Write). y.place ≡ z → ⊥) ws) (eqb-true w.place p q) (fresh_places w.place ws (once_parts w.place (map place_of ws) once).0))
        ∙ some-injective w.bytes b f
    go false q f r = r f

cached_none : (ws : List Write) (p : ℕ) (x : Block) → cached p ws ≡ none → over ws p x ≡ x
cached_none [] p x e = refl
cached_none (w ∷ ws) p x e = go (eqb w.place p) e (cached_none ws p x)
  where
    go : (t : Bool) → cond t (some w.bytes) (cached p ws) ≡ none → (cached p ws ≡ none → over ws p x ≡ x) → over ws p (cond t w.bytes x) ≡ x
    go true f r = absurd (none-ne-some w.bytes (sym f))
    go false f r = r f

abbrev first_of : Option Block → Option Block → Option Block
first_of none o = o
first_of (some b) o = some b

cached_append : (p : ℕ) (xs ys : List Write) → cached p (xs ++ ys) ≡ first_of (cached p xs) (cached p ys)
cached_append p [] ys = refl
cached_append p (x ∷ xs) ys = go (eqb x.place p) (cached_append p xs ys)
  where
    go : (b : Bool) → cached p (xs ++ ys) ≡ first_of (cached p xs) (cached p ys) →
        cond b (some x.bytes) (cached p (xs ++ ys)) ≡ first_of (cond b (some x.bytes) (cached p xs)) (cached p ys)
    go true r = refl
    go false r = r

-- the group laid on the disk's current blocks shows the last sealing
group_shows : (n : ℕ) (opening : List Block) (m : Medium) (last : ℕ) (g : Option Group) (u : Option UnderWay) (c : Sealing) →
    State n opening m.firm m.loose last g u c → (p : ℕ) → p < n →
    over (group_writes g) p (get_or (current m) p []) ≡ get_or (laid opening (last_sealed u c)) p []
group_shows n opening m last none (some u) c a p l = absurd a
group_shows n opening m last (some g) none c a p l = absurd a
group_shows n opening m last none none c (q, blank, h) p l =
    (kept_current (n + 9) (Idle n c.number (content opening c)) m h p (omega arith)).home l
group_shows n opening m last (some g) (some u) c (is_last, number, blocks, phase, names, a) p l = go g.phase a
  where
    s : Sealing
    s = u.sealing

    logged : (slots tried : Bool) → (over g.writes p (content opening c p) ≡ content opening s p) →
        Keeps (n + 9) (Logged n c.number g.number g.writes (content opening c) slots tried) m →
        over g.writes p (get_or (current m) p []) ≡ content opening s p
    logged slots tried next h =
        ap (over g.writes p) ((kept_current (n + 9) (Logged n c.number g.number g.writes (content opening c) slots tried) m h p (omega arith)).home l) ∙ next

    go : (ph : Phase) → InPhase n opening g s c m.firm m.loose ph → over g.writes p (get_or (current m) p []) ≡ content opening s p
    go (slot i) (o, li, (tried, h, d)) = logged tried tried (o.next p l) h
    go slots_flush (o, (tried, h, d)) = logged tried tried (o.next p l) h
    go head (o, (tried, h)) = logged true tried (o.next p l) h
    go head_flush (o, h, d) = logged true true (o.next p l) h
    go (home i) (q, li, h, d) = (kept_current (n + 9) (Replayed n g.number g.writes (content opening s)) m h p (omega arith)).home l
    go homes_flush (q, h, d) = (kept_current (n + 9) (Replayed n g.number g.writes (content opening s)) m h p (omega arith)).home l
    go empty (q, f, h) =
        ap (over g.writes p) ((kept_current (n + 9) (Cleared n g.number g.writes (content opening s)) m h p (omega arith)).home l) ∙ f p l
    go empty_flush (q, f, h, d) =
        ap (over g.writes p) ((kept_current (n + 9) (Cleared n g.number g.writes (content opening s)) m h p (omega arith)).home l) ∙ f p l

-- no place twice in the group
group_once : (n : ℕ) (opening firm : List Block) (loose : List Write) (last : ℕ) (g : Option Group) (u : Option UnderWay) (c : Sealing) →
    State n opening firm loose last g u c → none_twice (map place_of (group_writes g)) ≡ true
group_once n opening firm loose last none u c a = refl
group_once n opening firm loose last (some g) none c a = absurd a
group_once n opening firm loose last (some g) (some u) c (is_last, number, blocks, phase, names, a) =
    (fits_parts n (head_of g.number g.writes) (decode_sound n _ (head_of g.number g.writes) names.decodes).1).apart

abbrev Shown : Answer → Type 0
Shown (shown b) = Unit {0}
Shown (accepted x) = ⊥
Shown (refused r) = ⊥

abbrev block_of : Answer → Block
block_of (shown b) = b
block_of (accepted x) = []
block_of (refused r) = []

-- a read that shows a block shows the finished writes laid on the opening blocks
pub read_newest : (n : ℕ) (opening : List Block) → length opening ≡ n → (v : Live) (l : Ledger) → Invariant n opening v l →
    (device : Device) (place room : ℕ) (bytes : Block) → (outcome_in n device v (read place room)).answer ≡ shown bytes →
    bytes ≡ get_or (laid opening l.finished) place []
read_newest n opening size v l i device place room bytes = by_tests (not (eqb room 512)) (leb n place) refl
  where
    sealed : List Block
    sealed = laid opening (last_sealed l.under_way l.committed)

    now : Block
    now = get_or (laid opening l.finished) place []

    on_disk : Block
    on_disk = get_or (current v.medium) place []

    -- what stands at the place, by the invariant
    now_is : place < n → now ≡ over v.collected place (over (group_writes v.group) place on_disk)
    now_is lt =
        ap (λ bs. get_or bs place []) (sym i.shown_next)
        ∙ get_d_lay v.collected sealed place
        (subst (λ x. place < x) (sym (length_lay opening (map write_of (by_mark (last_sealed l.under_way l.committed))) ∙ size)) lt)
        ∙ ap (over v.collected place)
        (sym (group_shows n opening v.medium v.last v.group l.under_way l.committed i.state place lt))

    by_parts : place < n → (x y : Option Block) → cached place v.collected ≡ x → cached place (group_writes v.group) ≡ y →
        (read_shown device v place room (first_of x y)).answer ≡ shown bytes → bytes ≡ now
    by_parts lt (some b) y e f a =
        sym (now_is lt ∙ cached_some v.collected place b (over (group_writes v.group) place on_disk) i.table.once e ∙ ap block_of a)
    by_parts lt none (some b) e f a =
        sym (now_is lt ∙ cached_none v.collected place (over (group_writes v.group) place on_disk) e
        ∙ cached_some (group_writes v.group) place b on_disk
        (group_once n opening v.medium.firm v.medium.loose v.last v.group l.under_way l.committed i.state) f
        ∙ ap block_of a)
    by_parts lt none none e f a = by_fate (fate v.medium place room) a
      where
        by_fate : (x : Fate) → (read_disk device v place x).answer ≡ shown bytes → bytes ≡ now
        by_fate served a = sym (now_is lt ∙ cached_none v.collected place (over (group_writes v.group) place on_disk) e
            ∙ cached_none (group_writes v.group) place on_disk f ∙ ap block_of a)
        by_fate failed a = absurd (subst Shown (sym a) tt)
        by_fate wrong_length a = absurd (subst Shown (sym a) tt)
        by_fate wrong_place a = absurd (subst Shown (sym a) tt)

    by_tests : (long far : Bool) → leb n place ≡ far →
        (decided (cond long (some error.Length) (cond far (some error.Place) none)) (read_shown device v place room (cached place (v.collected ++ group_writes v.group))) v).answer ≡ shown bytes → bytes ≡ now
    by_tests true far e a = absurd (subst Shown (sym a) tt)
    by_tests false true e a = absurd (subst Shown (sym a) tt)
    by_tests false false e a = by_parts (leb-false n place e)
        (cached place v.collected) (cached place (group_writes v.group)) refl refl
        (subst (λ o. (read_shown device v place room o).answer ≡ shown bytes) (cached_append place v.collected (group_writes v.group)) a)
