-- A text that is taken line by line.
use Rattle.std.proofs.Common.{◌≡◌, ℕ, ◌+◌, ◌<◌, ◌≤◌, Bool, true, false, cond, ◌⊎◌, inl, inr, List, [], ◌∷◌, ◌++◌, length, get_or, drop, Ok, Err, Result, is_ok, sym, refl, ap, ◌∙◌, subst, arith}
use Rattle.std.specs.Fn.{CalledAt}
use Rattle.std.specs.Iterator.Adapters.{enumerate_source, enumerate_count, enumerate_steps}
use Rattle.std.specs.Slice.Iter.{split_rest, split_done, split_callee, split_steps}
use Rattle.std.proofs.lemmas.Iterator.{YieldsList}
use Rattle.std.proofs.lemmas.Iterator.Consumers.{YieldsList-at, YieldsList-from_enumerate}
use Rattle.std.proofs.lemmas.Iterator.Splits.{YieldsList-from_slice_split}
use Rattle.std.specs.Result.{MatchResult, IsErrAnd}
use Rattle.std.specs.List.{slice_split, onto_first, enumerate_from}
use Rattle.std.proofs.lemmas.List.FromFn.{length-enumerate_from, get_or-enumerate_from}
use Rattle.std.proofs.lemmas.List.{at_drop_more}
use Rattle.std.proofs.lemmas.Bool.{both_ways, le-leb}
use Rattle.trace.specs.declared.call.Mode.TheVariants.{Overlap}
use Rattle.trace.specs.Building.{bare}
use Rattle.trace.specs.Format.{Trace}
use Rattle.assembly.specs.declared.mistake.Mistake.{Mistake}
use Rattle.assembly.specs.declared.mistake.LineError.{LineError}
use Rattle.assembly.specs.declared.mistake.LineError.TheVariants as line_error
use Rattle.assembly.specs.declared.mistake.AssemblyError.{AssemblyError}
use Rattle.assembly.specs.declared.mistake.AssemblyError.TheVariants.{TooLong}
use Rattle.assembly.specs.Words.{is_line_end, lines, words}
use Rattle.assembly.specs.Statements.{stated, uncommented, Comes}
use Rattle.assembly.specs.Assembled.{at_line, from_line, assembled, located_at, Fails}

-- an empty line at the end does nothing
from_line_empty : (n : ℕ) (ls : List (List ℕ)) (t : Trace) → from_line n (ls ++ [] ∷ []) t ≡ from_line n ls t
from_line_empty n [] t = refl
from_line_empty n (l ∷ ls) t = go (stated (words (uncommented l)) t) (from_line_empty (n + 1) ls)
  where
    go : (r : Result Trace Mistake) → ((u : Trace) → from_line (n + 1) (ls ++ [] ∷ []) u ≡ from_line (n + 1) ls u) →
        at_line n (from_line (n + 1) (ls ++ [] ∷ [])) r ≡ at_line n (from_line (n + 1) ls) r
    go (Ok u) h = h u
    go (Err mistake) h = refl

-- the library's parts of a text are its lines, but for an empty one at the end
parts_lines : (bs : List ℕ) → (slice_split is_line_end bs ≡ lines bs) ⊎ (slice_split is_line_end bs ≡ lines bs ++ [] ∷ [])
parts_lines [] = inr refl
parts_lines (b ∷ bs) = go (is_line_end b) (parts_lines bs)
  where
    joined : (ps : List (List ℕ)) → (onto_first b (ps ++ [] ∷ []) ≡ onto_first b ps) ⊎ (onto_first b (ps ++ [] ∷ []) ≡ onto_first b ps ++ [] ∷ [])
    joined [] = inl refl
    joined (p ∷ ps) = inr refl

    go : (e : Bool) → (slice_split is_line_end bs ≡ lines bs) ⊎ (slice_split is_line_end bs ≡ lines bs ++ [] ∷ []) →
        (cond e ([] ∷ slice_split is_line_end bs) (onto_first b (slice_split is_line_end bs)) ≡ cond e ([] ∷ lines bs) (onto_first b (lines bs)))
        ⊎ (cond e ([] ∷ slice_split is_line_end bs) (onto_first b (slice_split is_line_end bs)) ≡ cond e ([] ∷ lines bs) (onto_first b (lines bs)) ++ [] ∷ [])
    go true (inl h) = inl (ap (λ ps. [] ∷ ps) h)
    go true (inr h) = inr (ap (λ ps. [] ∷ ps) h)
    go false (inl h) = inl (ap (onto_first b) h)
    go false (inr h) = both (joined (lines bs))
      where
        both : (onto_first b (lines bs ++ [] ∷ []) ≡ onto_first b (lines bs)) ⊎ (onto_first b (lines bs ++ [] ∷ []) ≡ onto_first b (lines bs) ++ [] ∷ []) →
            (onto_first b (slice_split is_line_end bs) ≡ onto_first b (lines bs)) ⊎ (onto_first b (slice_split is_line_end bs) ≡ onto_first b (lines bs) ++ [] ∷ [])
        both (inl k) = inl (ap (onto_first b) h ∙ k)
        both (inr k) = inr (ap (onto_first b) h ∙ k)

from_parts : (n : ℕ) (bs : List ℕ) (t : Trace) → from_line n (slice_split is_line_end bs) t ≡ from_line n (lines bs) t
from_parts n bs t = go (parts_lines bs)
  where
    go : (slice_split is_line_end bs ≡ lines bs) ⊎ (slice_split is_line_end bs ≡ lines bs ++ [] ∷ []) → from_line n (slice_split is_line_end bs) t ≡ from_line n (lines bs) t
    go (inl e) = ap (λ ls. from_line n ls t) e
    go (inr e) = ap (λ ls. from_line n ls t) e ∙ from_line_empty n (lines bs) t

pub assembled_within : (text : List ℕ) → length text ≤ 1048576 → from_line 1 (slice_split is_line_end text) (bare Overlap false) ≡ assembled text
assembled_within text l =
    from_parts 1 text (bare Overlap false) ∙ sym (ap (λ b. cond b (from_line 1 (lines text) (bare Overlap false)) (Err TooLong)) (le-leb (length text) 1048576 l))

-- the lines of a text with their indices, as the library's iterators give them
pub counted_lines : {F : Type 0} {f : F} {s : _} {parts : _} (g : _) (text : List ℕ) → enumerate_source s ≡ parts →
    enumerate_count s ≡ 0 → split_rest parts ≡ text → split_done parts ≡ false → split_callee parts ≡ f → ((x : ℕ) (b : Bool) (q : F) → CalledAt g f x b q → (q ≡ f) × (b ≡ is_line_end x)) →
    YieldsList (enumerate_steps (split_steps g)) (λ p. (p.0, p.1.now)) s (enumerate_from 0 (slice_split is_line_end text))
counted_lines g text from count rest done closure each = YieldsList-from_enumerate (YieldsList-at from (YieldsList-from_slice_split g is_line_end text rest done closure each)) count

-- the line at an index, as the library counts them
pub numbered : (ls : List (List ℕ)) (k i : ℕ) (line : List ℕ) → k < length (enumerate_from 0 ls) → ◌≡◌ {A = ℕ × List ℕ} (i, line) (get_or (enumerate_from 0 ls) k (i, line)) →
    (k < length ls) × (i ≡ k) × (line ≡ get_or ls k line)
numbered ls k i line l e = (some, ap (λ (p : ℕ × List ℕ). p.0) pair ∙ (let zero : 0 + k ≡ k = omega arith in zero), ap (λ (p : ℕ × List ℕ). p.1) pair)
  where
    some : k < length ls
    some = omega (arith, l, length-enumerate_from 0 ls)

    pair : ◌≡◌ {A = ℕ × List ℕ} (i, line) (0 + k, get_or ls k line)
    pair = e ∙ get_or-enumerate_from 0 ls k (i, line) some

-- the next line of those left
module _ (ls : List (List ℕ)) (k : ℕ) (line : List ℕ) (t : Trace) (some : k < length ls) (e : line ≡ get_or ls k line) where
  next_line : from_line (k + 1) (drop k ls) t ≡ at_line (k + 1) (from_line ((k + 1) + 1) (drop (k + 1) ls)) (stated (words (uncommented line)) t)
  next_line =
      at_drop_more (λ xs. from_line (k + 1) xs t) ls k line some
      ∙ ap (λ l. at_line (k + 1) (from_line ((k + 1) + 1) (drop (k + 1) ls)) (stated (words (uncommented l)) t)) (sym e)

  pub line_taken : (m : ℕ) (r : Result (Unit {0}) LineError) (u : Trace) → m ≡ k + 1 → is_ok r ≡ true → Comes (stated (words (uncommented line)) t) r u →
      from_line (m + 1) (drop m ls) u ≡ from_line (k + 1) (drop k ls) t
  line_taken m (Ok x) u h o c = ap (λ n. from_line (n + 1) (drop n ls) u) h ∙ sym (next_line ∙ ap (at_line (k + 1) (from_line ((k + 1) + 1) (drop (k + 1) ls))) c)
  line_taken m (Err error) u h o c = absurd (both_ways false refl o)

  line_wrong : (error : LineError) (u : Trace) → Comes (stated (words (uncommented line)) t) (Err error) u → Fails (from_line (k + 1) (drop k ls) t) (located_at (k + 1) error)
  line_wrong (line_error.Mistake mistake) u c = next_line ∙ ap (at_line (k + 1) (from_line ((k + 1) + 1) (drop (k + 1) ls))) c
  line_wrong line_error.NoMemory u c = tt

  -- q is r with the line's number in its error, as `map_err` says it
  pub line_failed : {P : LineError → AssemblyError → Type 0} (r : Result (Unit {0}) LineError) (q : Result (Unit {0}) AssemblyError) (a : AssemblyError) (u : Trace) →
      ((error : LineError) (b : AssemblyError) → P error b → b ≡ located_at (k + 1) error) → MatchResult r (λ x. q ≡ Ok x) (λ error. IsErrAnd q (P error)) → q ≡ Err a →
      Comes (stated (words (uncommented line)) t) r u → Fails (from_line (k + 1) (drop k ls) t) a
  line_failed (Ok x) q a u each h e c = absurd (both_ways true (sym (ap is_ok h) ∙ ap is_ok e) refl)
  line_failed {P} (Err error) q a u each h e c =
      subst (λ b. Fails (from_line (k + 1) (drop k ls) t) b) (sym (each error a (subst (λ x. IsErrAnd x (P error)) e h))) (line_wrong error u c)

-- what holds of what is left holds of the whole
pub fails_as : (error : AssemblyError) {a b : Result Trace AssemblyError} → a ≡ b → Fails a error → Fails b error
fails_as error e h = subst (λ x. Fails x error) e h
