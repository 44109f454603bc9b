-- From what the disk promises of a call to where a recovery then stands.
use Rattle.std.proofs.Common.{◌≡◌, ℕ, ◌+◌, ◌<◌, ◌≤◌, true, cond, List, [], ◌∷◌, ◌++◌, length, get_or, Ok, Err, Result, sym, refl, ap, ◌∙◌, subst, add-one, arith}
use Rattle.std.proofs.lemmas.Bool.{ne_eqb, lt-ltb}
use Rattle.std.proofs.ByRecursion.{All-append}
use Rattle.disk.specs.declared.error.Kind.{Kind}
use Rattle.disk.specs.declared.error.Kind.TheVariants as kind
use Rattle.disk.specs.declared.error.DiskError.{DiskError}
use Rattle.disk.specs.Medium.{Block, Effect, Entry, good, bad, Medium, size, current, due, passed, flushed, put}
use Rattle.disk.specs.Calls.{Answer, Fate, answer, leaves, fate, planned, shows, by_entry as fate_by, Reads, WritesBy, Flushes}
use Rattle.errors.specs.declared.VolumeError.{VolumeError}
use Rattle.errors.specs.declared.VolumeError.TheVariants as volume
use Rattle.head.specs.Head.{Head, encode, decode, empty_head, fits}
use Rattle.head.proofs.Bytes.{length_encode}
use Rattle.journal_law.specs.Recovery.{by_entry, Stage, first_flush, read_head, read_slot, write_home, home_flush, write_empty, last_flush, recovered, no_head, failed, Recovery, started, slot_place, head_write, head_seen, good_call, bad_call, one_call, calls, fault, ended}
use Rattle.journal_law.proofs.Media.{length_lay, length_wrote}
use Rattle.journal_law.proofs.Start.{inside_all, fits_parts}
use Rattle.journal_law.proofs.Held.{fate_is}
use Rattle.journal_volume.specs.Recovering.{at, Ends, Leads, Goes, turn, seen_stage}

-- what became of a call that passed its checks
pub data Came (tries : ℕ) (k : Kind) (place : ℕ) (m done : Medium) (r : Answer) (m' : Medium) : Type 0 where
  went : due m.plan ≡ good → r ≡ Ok tt → m' ≡ done → Came tries k place m done r m'
  fell : due m.plan ≡ bad → r ≡ Err (fault tries k place) → m' ≡ passed m → Came tries k place m done r m'

came : (tries : ℕ) (k : Kind) (place : ℕ) (m done : Medium) (r : Answer) (m' : Medium) (f : Fate) → f ≡ fate_by (due m.plan) →
    r ≡ answer tries k place f → m' ≡ leaves m done f → Came tries k place m done r m'
came tries k place m done r m' f ef a b =
    go (due m.plan) refl (a ∙ ap (answer tries k place) ef) (b ∙ ap (leaves m done) ef)
  where
    go : (e : Entry) → due m.plan ≡ e → r ≡ answer tries k place (fate_by e) → m' ≡ leaves m done (fate_by e) → Came tries k place m done r m'
    go good e x y = went e x y
    go bad e x y = fell e x y

module _ (tries : ℕ) (m : Medium) (r : Answer) (m' : Medium) where
  flush_came : Flushes tries m r m' → Came tries kind.Flush 0 m (flushed m) r m'
  flush_came d = came tries kind.Flush 0 m (flushed m) r m' (planned m) refl d.answers d.after

  write_came : (effect : Effect) (place : ℕ) (b : Block) → length b ≡ 512 → place < size m → WritesBy effect tries m place b r m' →
      Came tries kind.Write place m (put effect m (record { place = place; bytes = b })) r m'
  write_came effect place b e l d =
      came tries kind.Write place m (put effect m (record { place = place; bytes = b })) r m' (fate m place (length b)) (fate_is m place (length b) e l) d.answers d.after

  read_came : (place : ℕ) (b c : Block) → length b ≡ 512 → place < size m → Reads tries m place b r m' c →
      Came tries kind.Read place m (passed m) r m'
  read_came place b c e l d = came tries kind.Read place m (passed m) r m' (fate m place (length b)) (fate_is m place (length b) e l) d.answers d.after

  read_shows : (place : ℕ) (b c : Block) → length b ≡ 512 → place < size m → Reads tries m place b r m' c →
      due m.plan ≡ good → c ≡ get_or (current m) place []
  read_shows place b c e l d g = d.buffer ∙ ap (shows m place b) (fate_is m place (length b) e l ∙ ap fate_by g)

pub calls_append : (n : ℕ) (xs ys : List Effect) (x : Recovery) → calls n (xs ++ ys) x ≡ calls n ys (calls n xs x)
calls_append n [] ys x = refl
calls_append n (s ∷ xs) ys x = calls_append n xs ys (one_call n s x)

-- no call changes the size
good_size : (n : ℕ) (effect : Effect) (s : Stage) (m : Medium) → size (good_call n effect m s).medium ≡ size m
good_size n effect first_flush m = length_lay m.firm m.loose
good_size n effect read_head m = refl
good_size n effect (read_slot i h) m = refl
good_size n effect (write_home i h bytes) m = length_wrote effect (record { place = get_or h.places i 0; bytes = bytes }) m
good_size n effect (home_flush h) m = length_lay m.firm m.loose
good_size n effect (write_empty h) m = length_wrote effect (head_write n (empty_head h.number)) m
good_size n effect (last_flush h) m = length_lay m.firm m.loose
good_size n effect (recovered k) m = refl
good_size n effect no_head m = refl
good_size n effect (failed call place) m = refl

bad_size : (n : ℕ) (s : Stage) (m : Medium) → size (bad_call n m s).medium ≡ size m
bad_size n first_flush m = refl
bad_size n read_head m = refl
bad_size n (read_slot i h) m = refl
bad_size n (write_home i h bytes) m = refl
bad_size n (home_flush h) m = refl
bad_size n (write_empty h) m = refl
bad_size n (last_flush h) m = refl
bad_size n (recovered k) m = refl
bad_size n no_head m = refl
bad_size n (failed call place) m = refl

one_size : (n : ℕ) (effect : Effect) (x : Recovery) → size (one_call n effect x).medium ≡ size x.medium
one_size n effect x = go (due x.medium.plan)
  where
    go : (e : Entry) → size (by_entry e (good_call n effect x.medium x.stage) (bad_call n x.medium x.stage)).medium ≡ size x.medium
    go good = good_size n effect x.stage x.medium
    go bad = bad_size n x.stage x.medium

pub calls_size : (n : ℕ) (es : List Effect) (x : Recovery) → size (calls n es x).medium ≡ size x.medium
calls_size n [] x = refl
calls_size n (e ∷ es) x = calls_size n es (one_call n e x) ∙ one_size n e x

module _ (By : Effect → Type 0) where
  -- one call of the recovery
  one_goes : (tries n : ℕ) (s : Stage) (m : Medium) (effect : Effect) → By effect → (next : Stage) (done : Medium) (k : Kind) (place : ℕ) (r : Answer) (m' : Medium) →
      (due m.plan ≡ good → good_call n effect m s ≡ at next done) → bad_call n m s ≡ at (failed k place) (passed m) →
      Came tries k place m done r m' → Goes By tries n (at s m) next r m'
  one_goes tries n s m effect by next done k place r m' step breaks (went e a b) =
      subst (λ x. Goes By tries n (at s m) next x m') (sym a)
      (record {
        effects = effect ∷ [];
        by_rule = (by, tt);
        run = ap (λ x. by_entry x (good_call n effect m s) (bad_call n m s)) e ∙ step e ∙ ap (at next) (sym b);
      })
  one_goes tries n s m effect by next done k place r m' step breaks (fell e a b) =
      let broke : one_call n effect (at s m) ≡ at (failed k place) (passed m) = ap (λ x. by_entry x (good_call n effect m s) (bad_call n m s)) e ∙ breaks in
      subst (λ x. Goes By tries n (at s m) next x m') (sym a)
      (record {
        effects = effect ∷ [];
        by_rule = (by, tt);
        answers = ap (λ (x : Recovery). ended tries x.stage) broke;
        leaves = b ∙ sym (ap (λ (x : Recovery). x.medium) broke);
      })

  module _ (n : ℕ) (x y : Recovery) (l : Leads By n x y) where
    joined_run : (ys : List Effect) → calls n (l.effects ++ ys) x ≡ calls n ys y
    joined_run ys = calls_append n l.effects ys x ∙ ap (calls n ys) l.run

    pub leads_on : (z : Recovery) → Leads By n y z → Leads By n x z
    leads_on z k = record { effects = l.effects ++ k.effects; by_rule = All-append By l.effects k.effects l.by_rule k.by_rule; run = joined_run k.effects ∙ k.run }

    pub ends_on : (tries : ℕ) (r : Result ℕ VolumeError) (m' : Medium) → Ends By tries n y r m' → Ends By tries n x r m'
    ends_on tries r m' k = record {
      effects = l.effects ++ k.effects;
      by_rule = All-append By l.effects k.effects l.by_rule k.by_rule;
      answers = ap (λ (z : Recovery). ended tries z.stage) (joined_run k.effects) ∙ k.answers;
      leaves = k.leaves ∙ sym (ap (λ (z : Recovery). z.medium) (joined_run k.effects));
    }

    pub goes_on : (tries : ℕ) (s : Stage) (r : Answer) (m' : Medium) → Goes By tries n y s r m' → Goes By tries n x s r m'
    goes_on tries s (Ok u) m' k = leads_on (at s m') k
    goes_on tries s (Err e) m' k = ends_on tries (Err (volume.Disk e)) m' k

  pub leads_size : (n : ℕ) (x y : Recovery) → Leads By n x y → size y.medium ≡ size x.medium
  leads_size n x y l = sym (ap (λ (z : Recovery). size z.medium) l.run) ∙ calls_size n l.effects x

  -- each stage's call; a call that is no write may be taken with any effect of the disk
  module _ (any : (e : Effect) × By e) (tries n : ℕ) (m : Medium) (r : Answer) (m' : Medium) where
    pub first_flush_goes : Flushes tries m r m' → Goes By tries n (started m) read_head r m'
    first_flush_goes d = one_goes tries n first_flush m any.0 any.1 read_head (flushed m) kind.Flush 0 r m' (λ _. refl) refl (flush_came tries m r m' d)

    read_head_goes : (b c : Block) → length b ≡ 512 → n < size m → Reads tries m n b r m' c →
        Goes By tries n (at read_head m) (head_seen (decode n c)) r m'
    read_head_goes b c e l d = one_goes tries n read_head m any.0 any.1 (head_seen (decode n c)) (passed m) kind.Read n r m'
        (λ g. ap (λ x. at (head_seen (decode n x)) (passed m)) (sym (read_shows tries m r m' n b c e l d g))) refl (read_came tries m r m' n b c e l d)

    read_slot_goes : (h : Head) (i place : ℕ) (b c : Block) → place ≡ slot_place n i → length b ≡ 512 → place < size m → Reads tries m place b r m' c →
        Goes By tries n (at (read_slot i h) m) (write_home i h c) r m'
    read_slot_goes h i place b c p e l d = one_goes tries n (read_slot i h) m any.0 any.1 (write_home i h c) (passed m) kind.Read (slot_place n i) r m'
        (λ g. ap (λ x. at (write_home i h x) (passed m)) (sym (read_shows tries m r m' place b c e l d g ∙ ap (λ q. get_or (current m) q []) p)))
        refl (subst (λ q. Came tries kind.Read q m (passed m) r m') p (read_came tries m r m' place b c e l d))

    pub home_flush_goes : (h : Head) → Flushes tries m r m' → Goes By tries n (at (home_flush h) m) (write_empty h) r m'
    home_flush_goes h d = one_goes tries n (home_flush h) m any.0 any.1 (write_empty h) (flushed m) kind.Flush 0 r m' (λ _. refl) refl (flush_came tries m r m' d)

    pub last_flush_goes : (h : Head) → Flushes tries m r m' → Goes By tries n (at (last_flush h) m) (recovered h.number) r m'
    last_flush_goes h d = one_goes tries n (last_flush h) m any.0 any.1 (recovered h.number) (flushed m) kind.Flush 0 r m' (λ _. refl) refl (flush_came tries m r m' d)

  module _ (effect : Effect) (by : By effect) (tries n : ℕ) (m : Medium) (r : Answer) (m' : Medium) where
    write_home_goes : (h : Head) (i place : ℕ) (b : Block) → place ≡ get_or h.places i 0 → length b ≡ 512 → place < size m → WritesBy effect tries m place b r m' →
        Goes By tries n (at (write_home i h b) m) (turn (i + 1) h) r m'
    write_home_goes h i place b p e l d =
        one_goes tries n (write_home i h b) m effect by (turn (i + 1) h) (put effect m (record { place = get_or h.places i 0; bytes = b })) kind.Write (get_or h.places i 0) r m'
        (λ g. ap (λ k. at (turn k h) (put effect m (record { place = get_or h.places i 0; bytes = b }))) (sym (add-one i))) refl
        (subst (λ q. Came tries kind.Write q m (put effect m (record { place = q; bytes = b })) r m') p (write_came tries m r m' effect place b e l d))

    write_empty_goes : (h : Head) (b : Block) → b ≡ encode (empty_head h.number) → length b ≡ 512 → n < size m → WritesBy effect tries m n b r m' →
        Goes By tries n (at (write_empty h) m) (last_flush h) r m'
    write_empty_goes h b q e l d =
        one_goes tries n (write_empty h) m effect by (last_flush h) (put effect m (head_write n (empty_head h.number))) kind.Write n r m' (λ _. refl) refl
        (subst (λ x. Came tries kind.Write n m (put effect m (record { place = n; bytes = x })) r m') q (write_came tries m r m' effect n b e l d))

  -- the exit of a `?`
  pub handed_up : (tries n : ℕ) (x : Recovery) (s t : Stage) (e : DiskError) (r : Answer) (m' : Medium) → (y : DiskError) × (r ≡ Err y) × (y ≡ e) →
      Goes By tries n x s (Err e) m' → Goes By tries n x t r m'
  handed_up tries n x s t e r m' p k = subst (λ z. Goes By tries n x t z m') (sym (p.1 ∙ ap (λ y. Err y) p.2)) k

-- the turn of a slot
turn_on : (i : ℕ) (h : Head) → i < length h.places → turn i h ≡ read_slot i h
turn_on i h l = ap (λ t. cond t (read_slot i h) (home_flush h)) (lt-ltb i (length h.places) l)

pub seen_some : (h : Head) → 0 < length h.places → seen_stage h ≡ turn 0 h
seen_some h l = ap (λ t. cond t (recovered h.number) (read_slot 0 h)) (ne_eqb (length h.places) 0 (λ e. absurd (omega (arith, l, e)))) ∙ sym (turn_on 0 h l)

-- a place of a head that fits lies below the head
place_below : (n : ℕ) (h : Head) (i : ℕ) → fits n h ≡ true → i < length h.places → get_or h.places i 0 < n
place_below n h i f l = inside_all n h.places i (fits_parts n h f).below l

-- from x the recovery has come to slot i, and reads it
pub slot_goes : (By : Effect → Type 0) → (e : Effect) × By e → (tries n : ℕ) (x : Recovery) (h : Head) (i : ℕ) (m : Medium) (r : Answer) (m' : Medium) (b c : Block) →
    Leads By n x (at (turn i h) m) → size x.medium ≡ n + 9 → i < length h.places → length h.places ≤ 8 → length b ≡ 512 → Reads tries m (n + 1 + i) b r m' c →
    Goes By tries n x (write_home i h c) r m'
slot_goes By any tries n x h i m r m' b c l sized more few whole d =
    let slot : n + 1 + i ≡ slot_place n i = omega arith in
    let inside : n + 1 + i < size m = omega (arith, leads_size By n x (at (turn i h) m) l, sized, more, few) in
    goes_on By n x (at (turn i h) m) l tries (write_home i h c) r m'
    (subst (λ s. Goes By tries n (at s m) (write_home i h c) r m') (sym (turn_on i h more))
    (read_slot_goes By any tries n m r m' h i (n + 1 + i) b c slot whole inside d))

-- from x the recovery has read slot i, and writes its bytes home
pub place_goes : (By : Effect → Type 0) (effect : Effect) → By effect → (tries n : ℕ) (x : Recovery) (h : Head) (i place : ℕ) (m : Medium) (r : Answer) (m' : Medium) (b : Block) →
    Leads By n x (at (write_home i h b) m) → size x.medium ≡ n + 9 → fits n h ≡ true → i < length h.places → place ≡ get_or h.places i 0 → length b ≡ 512 → WritesBy effect tries m place b r m' →
    Goes By tries n x (turn (i + 1) h) r m'
place_goes By effect by tries n x h i place m r m' b l sized fit more p whole d =
    let inside : place < size m = omega (arith, p, place_below n h i fit more, leads_size By n x (at (write_home i h b) m) l, sized) in
    goes_on By n x (at (write_home i h b) m) l tries (turn (i + 1) h) r m'
    (write_home_goes By effect by tries n m r m' h i place b p whole inside d)

-- a recovery that began with a flush reads the head
pub head_goes : (By : Effect → Type 0) → (e : Effect) × By e → (tries n : ℕ) (m mid : Medium) (r : Answer) (m' : Medium) (b c : Block) →
    size m ≡ n + 9 → Flushes tries m (Ok tt) mid → length b ≡ 512 → Reads tries mid n b r m' c →
    Goes By tries n (started m) (head_seen (decode n c)) r m'
head_goes By any tries n m mid r m' b c sized f whole d =
    let first : Leads By n (started m) (at read_head mid) = first_flush_goes By any tries n m (Ok tt) mid f in
    let inside : n < size mid = omega (arith, leads_size By n (started m) (at read_head mid) first, sized) in
    goes_on By n (started m) (at read_head mid) first tries (head_seen (decode n c)) r m'
    (read_head_goes By any tries n mid r m' b c whole inside d)

-- after the flush that follows the slots, the empty head is written
pub empty_goes : (By : Effect → Type 0) → (e : Effect) × By e → (effect : Effect) → By effect → (tries n : ℕ) (h : Head) (m mid : Medium) (r : Answer) (m' : Medium) (b : Block) →
    size m ≡ n + 9 → Flushes tries m (Ok tt) mid → b ≡ encode (empty_head h.number) → WritesBy effect tries mid n b r m' →
    Goes By tries n (at (home_flush h) m) (last_flush h) r m'
empty_goes By any effect by tries n h m mid r m' b sized f bytes d =
    let first : Leads By n (at (home_flush h) m) (at (write_empty h) mid) = home_flush_goes By any tries n m (Ok tt) mid h f in
    let inside : n < size mid = omega (arith, leads_size By n (at (home_flush h) m) (at (write_empty h) mid) first, sized) in
    let whole : length b ≡ 512 = ap length bytes ∙ length_encode (empty_head h.number) (omega arith) in
    goes_on By n (at (home_flush h) m) (at (write_empty h) mid) first tries (last_flush h) r m'
    (write_empty_goes By effect by tries n mid r m' h b bytes whole inside d)
