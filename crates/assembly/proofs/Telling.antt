-- The text of a trace is assembled to it.
use Rattle.std.proofs.Common.{◌≡◌, ℕ, zero, suc, ◌+◌, ◌-◌, ◌*◌, ◌/◌, ◌%◌, ◌<◌, ◌≤◌, Bool, true, false, cond, not, ◌&&◌, ◌||◌, eqb, ltb, leb, ◌⊎◌, List, [], ◌∷◌, ◌++◌, map, length, take, Some, None, Ok, Err, codes, Option, Result, sym, refl, ap, ◌∙◌, inl, inr, arith}
use Rattle.std.specs.List.{flat_map, list_all, onto_first}
use Rattle.std.proofs.lemmas.List.Folds.{list_all-append}
use Rattle.std.proofs.lemmas.List.{append_assoc, append-nil, length-append, take_all}
use Rattle.std.proofs.lemmas.Bool.{and_parts, and_from, not-true, not_from_false, or_from, cases_Bool, ltb-true, leb-true, lt-ltb, le-leb, ne_eqb, cond-true}
use Rattle.trace.specs.declared.call.Mode.{Mode}
use Rattle.trace.specs.declared.call.Mode.TheVariants.{Overlap, Line, Journaled}
use Rattle.trace.specs.declared.call.TraceCall.{TraceCall}
use Rattle.trace.specs.declared.call.TraceCall.TheVariants.{Begin, Finish, Withdraw, Read, Step, Seal, Restart, Cut}
use Rattle.trace.specs.declared.trace.Trace.{Trace as CodeTrace}
use Rattle.trace.specs.Building.{bare, with_entry, with_call}
use Rattle.trace.specs.Calls.{flag_byte}
use Rattle.trace.specs.Calls as trace_calls
use Rattle.trace.specs.Format.{Trace, and_then, all_entries}
use Rattle.trace.specs.Traces.{trace_of}
use Rattle.assembly.specs.declared.mistake.Mistake.TheVariants.{Arguments, PlanFull, CallsFull}
use Rattle.assembly.specs.declared.mistake.AssemblyError.{AssemblyError}
use Rattle.assembly.specs.declared.mistake.AssemblyError.TheVariants as assembly_error
use Rattle.assembly.specs.Words.{is_blank, is_line_end, is_comment, first_at, pieces, filled, lines, words}
use Rattle.assembly.specs.Numbers.{with_digit, with_digits, number_of, byte_of}
use Rattle.assembly.specs.Keywords.{entry_of}
use Rattle.assembly.specs.Arguments.{byte_in, number_in, begin_in}
use Rattle.std.specs.Option.{option_map}
use Rattle.assembly.specs.Statements.{or_mistake, with_mode, with_retry, entered, called, stated, uncommented}
use Rattle.assembly.specs.Assembled.{at_line, from_line, assembled, Assembles}
use Rattle.assembly.specs.Told.{digits, decimal, mode_line, retry_line, entry_name, plan_line, call_line, line_by_line, text_of, fits, all_fit, WellFormed, Gives, ReadsBack}
use Rattle.assembly.proofs.Digits.{number_some}

-- no byte that passes a test
abbrev free : (ℕ → Bool) → List ℕ → Bool
free test bs = list_all (λ b. not (test b)) bs

free_parts : (test : ℕ → Bool) (b : ℕ) (bs : List ℕ) → free test (b ∷ bs) ≡ true → (test b ≡ false) × (free test bs ≡ true)
free_parts test b bs p = let h = and_parts (not (test b)) (free test bs) p in (not-true (test b) h.0, h.1)

-- a part up to its end, and a last part
piece_front : (test : ℕ → Bool) (xs : List ℕ) (b : ℕ) (rest : List ℕ) → free test xs ≡ true → test b ≡ true → pieces test (xs ++ b ∷ rest) ≡ xs ∷ pieces test rest
piece_front test [] b rest p q = ap (λ t. cond t ([] ∷ pieces test rest) (onto_first b (pieces test rest))) q
piece_front test (x ∷ xs) b rest p q =
    let h = free_parts test x xs p in
    ap (λ t. cond t ([] ∷ pieces test (xs ++ b ∷ rest)) (onto_first x (pieces test (xs ++ b ∷ rest)))) h.0
    ∙ ap (onto_first x) (piece_front test xs b rest h.1 q)

piece_last : (test : ℕ → Bool) (x : ℕ) (xs : List ℕ) → free test (x ∷ xs) ≡ true → pieces test (x ∷ xs) ≡ (x ∷ xs) ∷ []
piece_last test x [] p = ap (λ t. cond t ([] ∷ []) ((x ∷ []) ∷ [])) (free_parts test x [] p).0
piece_last test x (y ∷ ys) p =
    let h = free_parts test x (y ∷ ys) p in
    ap (λ t. cond t ([] ∷ pieces test (y ∷ ys)) (onto_first x (pieces test (y ∷ ys)))) h.0
    ∙ ap (onto_first x) (piece_last test y ys h.1)

words_front : (w rest : List ℕ) → 0 < length w → free is_blank w ≡ true → words (w ++ 32 ∷ rest) ≡ w ∷ words rest
words_front [] rest l p = absurd (omega arith)
words_front (b ∷ bs) rest l p = ap filled (piece_front is_blank (b ∷ bs) 32 rest p refl)

words_last : (w : List ℕ) → 0 < length w → free is_blank w ≡ true → words w ≡ w ∷ []
words_last [] l p = absurd (omega arith)
words_last (b ∷ bs) l p = ap filled (piece_last is_blank b bs p)

first_free : (test : ℕ → Bool) (bs : List ℕ) → free test bs ≡ true → first_at test bs ≡ length bs
first_free test [] p = refl
first_free test (b ∷ bs) p =
    let h = free_parts test b bs p in
    ap (λ t. cond t 0 (suc (first_at test bs))) h.0 ∙ ap suc (first_free test bs h.1)

-- a byte that ends no line and begins no comment
abbrev plain : List ℕ → Bool
plain bs = list_all (λ b. not (eqb b 10) && not (eqb b 35)) bs

-- what all of two lists pass, all of both together pass
all_append : (test : ℕ → Bool) (xs ys : List ℕ) → list_all test xs ≡ true → list_all test ys ≡ true → list_all test (xs ++ ys) ≡ true
all_append test xs ys p q = list_all-append test xs ys ∙ and_from (list_all test xs) (list_all test ys) p q

plain_append : (xs ys : List ℕ) → plain xs ≡ true → plain ys ≡ true → plain (xs ++ ys) ≡ true
plain_append = all_append (λ b. not (eqb b 10) && not (eqb b 35))

plain_free : (bs : List ℕ) → plain bs ≡ true → (free is_line_end bs ≡ true) × (free is_comment bs ≡ true)
plain_free [] p = (refl, refl)
plain_free (b ∷ bs) p =
    let h = and_parts (not (eqb b 10) && not (eqb b 35)) (plain bs) p in
    let k = and_parts (not (eqb b 10)) (not (eqb b 35)) h.0 in
    let r = plain_free bs h.1 in
    (and_from (not (eqb b 10)) (free is_line_end bs) k.0 r.0, and_from (not (eqb b 35)) (free is_comment bs) k.1 r.1)

uncommented_plain : (line : List ℕ) → plain line ≡ true → uncommented line ≡ line
uncommented_plain line p = ap (λ n. take n line) (first_free is_comment line (plain_free line p).1) ∙ take_all (length line) line (omega arith)

abbrev all_plain : List (List ℕ) → Bool
all_plain ls = list_all plain ls

lines_back : (ls : List (List ℕ)) → all_plain ls ≡ true → lines (line_by_line ls) ≡ ls
lines_back [] p = refl
lines_back (l ∷ ls) p =
    let h = and_parts (plain l) (all_plain ls) p in
    ap lines (append_assoc l (10 ∷ []) (line_by_line ls))
    ∙ piece_front is_line_end l 10 (line_by_line ls) (plain_free l h.0).0 refl
    ∙ ap (λ xs. l ∷ xs) (lines_back ls h.1)

-- numbers
digits_some : (k n : ℕ) → 0 < length (digits (suc k) n)
digits_some k n = go (ltb n 10)
  where
    go : (t : Bool) → 0 < length (cond t ((48 + n) ∷ []) (digits k (n / 10) ++ (48 + n % 10) ∷ []))
    go true = omega arith
    go false = omega (arith, length-append (digits k (n / 10)) ((48 + n % 10) ∷ []))

digits_few : (k n : ℕ) → length (digits k n) ≤ k
digits_few zero n = omega arith
digits_few (suc k) n = go (ltb n 10) (digits_few k (n / 10))
  where
    go : (t : Bool) → length (digits k (n / 10)) ≤ k → length (cond t ((48 + n) ∷ []) (digits k (n / 10) ++ (48 + n % 10) ∷ [])) ≤ suc k
    go true h = omega arith
    go false h = omega (arith, length-append (digits k (n / 10)) ((48 + n % 10) ∷ []))

-- what holds of each digit, and of two lists together, holds of a number's digits
module _ (P : List ℕ → Bool) (none : P [] ≡ true) (one : (d : ℕ) → d < 10 → P ((48 + d) ∷ []) ≡ true) (both : (xs ys : List ℕ) → P xs ≡ true → P ys ≡ true → P (xs ++ ys) ≡ true) where
  digits_each : (k n : ℕ) → P (digits k n) ≡ true
  digits_each zero n = none
  digits_each (suc k) n = go (cases_Bool (ltb n 10)) (digits_each k (n / 10))
    where
      go : (ltb n 10 ≡ true) ⊎ (ltb n 10 ≡ false) → P (digits k (n / 10)) ≡ true → P (digits (suc k) n) ≡ true
      go (inl e) h = ap (λ t. P (cond t ((48 + n) ∷ []) (digits k (n / 10) ++ (48 + n % 10) ∷ []))) e ∙ one n (ltb-true n 10 e)
      go (inr e) h =
          ap (λ t. P (cond t ((48 + n) ∷ []) (digits k (n / 10) ++ (48 + n % 10) ∷ []))) e
          ∙ both (digits k (n / 10)) ((48 + n % 10) ∷ []) h (one (n % 10) (omega arith))

digit_not : (d b : ℕ) → d < 10 → b < 48 → eqb (48 + d) b ≡ false
digit_not d b l s = ne_eqb (48 + d) b (λ e. omega arith)

digits_plain : (k n : ℕ) → plain (digits k n) ≡ true
digits_plain = digits_each plain refl (λ d l. one d l) plain_append
  where
    one : (d : ℕ) → d < 10 → plain ((48 + d) ∷ []) ≡ true
    one d l = and_from (not (eqb (48 + d) 10) && not (eqb (48 + d) 35)) true
        (and_from (not (eqb (48 + d) 10)) (not (eqb (48 + d) 35)) (not_from_false (eqb (48 + d) 10) (digit_not d 10 l (omega arith))) (not_from_false (eqb (48 + d) 35) (digit_not d 35 l (omega arith)))) refl

digits_dark : (k n : ℕ) → free is_blank (digits k n) ≡ true
digits_dark = digits_each (free is_blank) refl (λ d l. one d l) (all_append (λ b. not (is_blank b)))
  where
    one : (d : ℕ) → d < 10 → free is_blank ((48 + d) ∷ []) ≡ true
    one d l = and_from (not (is_blank (48 + d))) true
        (not_from_false (is_blank (48 + d))
        (or_from (eqb (48 + d) 32) (eqb (48 + d) 9 || eqb (48 + d) 13) (digit_not d 32 l (omega arith))
        (or_from (eqb (48 + d) 9) (eqb (48 + d) 13) (digit_not d 9 l (omega arith)) (digit_not d 13 l (omega arith))))) refl

and_then_same : (o : Option ℕ) → and_then o (λ v. Some v) ≡ o
and_then_same None = refl
and_then_same (Some v) = refl

digits_push : (m : ℕ) (xs : List ℕ) (d : ℕ) → with_digits m (xs ++ d ∷ []) ≡ and_then (with_digits m xs) (λ v. with_digit v d)
digits_push m [] d = and_then_same (with_digit m d)
digits_push m (x ∷ xs) d = go (with_digit m x) (λ k. digits_push k xs d)
  where
    go : (o : Option ℕ) → ((k : ℕ) → with_digits k (xs ++ d ∷ []) ≡ and_then (with_digits k xs) (λ v. with_digit v d)) →
        and_then o (λ k. with_digits k (xs ++ d ∷ [])) ≡ and_then (and_then o (λ k. with_digits k xs)) (λ v. with_digit v d)
    go None h = refl
    go (Some k) h = h k

digit_back : (v d n : ℕ) → d < 10 → 10 * v + d ≡ n → n ≤ 65535 → with_digit v (48 + d) ≡ Some n
digit_back v d n l e few =
    cond-true (leb 48 (48 + d) && (leb (48 + d) 57 && leb (10 * v + ((48 + d) - 48)) 65535)) (Some (10 * v + ((48 + d) - 48))) None
    (and_from (leb 48 (48 + d)) (leb (48 + d) 57 && leb (10 * v + ((48 + d) - 48)) 65535) (le-leb 48 (48 + d) (omega arith))
    (and_from (leb (48 + d) 57) (leb (10 * v + ((48 + d) - 48)) 65535) (le-leb (48 + d) 57 (omega arith)) (le-leb (10 * v + ((48 + d) - 48)) 65535 (omega arith))))
    ∙ ap Some (let q : 10 * v + ((48 + d) - 48) ≡ n = omega arith in q)

-- how many numbers have so many digits
abbrev bound : ℕ → ℕ
bound zero = 1
bound (suc k) = 10 * bound k

digits_back : (k n : ℕ) → n < bound k → n ≤ 65535 → with_digits 0 (digits k n) ≡ Some n
digits_back zero n l few = ap Some (let q : 0 ≡ n = omega arith in q)
digits_back (suc k) n l few = go (cases_Bool (ltb n 10)) (digits_back k (n / 10) (omega arith) (omega arith))
  where
    go : (ltb n 10 ≡ true) ⊎ (ltb n 10 ≡ false) → with_digits 0 (digits k (n / 10)) ≡ Some (n / 10) → with_digits 0 (digits (suc k) n) ≡ Some n
    go (inl e) h =
        ap (λ t. with_digits 0 (cond t ((48 + n) ∷ []) (digits k (n / 10) ++ (48 + n % 10) ∷ []))) e
        ∙ and_then_same (with_digit 0 (48 + n))
        ∙ digit_back 0 n n (ltb-true n 10 e) (omega arith) few
    go (inr e) h =
        ap (λ t. with_digits 0 (cond t ((48 + n) ∷ []) (digits k (n / 10) ++ (48 + n % 10) ∷ []))) e
        ∙ digits_push 0 (digits k (n / 10)) (48 + n % 10)
        ∙ ap (λ o. and_then o (λ v. with_digit v (48 + n % 10))) h
        ∙ digit_back (n / 10) (n % 10) n (omega arith) (omega arith) few

number_back : (n : ℕ) → n < 65536 → number_of (decimal n) ≡ Some n
number_back n l =
    sym (number_some (decimal n) (ne_eqb (length (decimal n)) 0 (λ e. omega (arith, digits_some 4 n))))
    ∙ digits_back 5 n (omega arith) (omega arith)

byte_back : (n : ℕ) → n < 256 → byte_of (decimal n) ≡ Some n
byte_back n l =
    ap (λ o. and_then o (λ m. cond (leb m 255) (Some m) None)) (number_back n (omega arith))
    ∙ cond-true (leb n 255) (Some n) None (le-leb n 255 (omega arith))

decimal_words : (n : ℕ) → words (decimal n) ≡ decimal n ∷ []
decimal_words n = words_last (decimal n) (digits_some 4 n) (digits_dark 5 n)

-- each call's line says the call
number_told : (n : ℕ) → n < 65536 → number_in (words (decimal n)) ≡ Some n
number_told n l = ap number_in (decimal_words n) ∙ number_back n l

byte_told : (n : ℕ) → n < 256 → byte_in (words (decimal n)) ≡ Some n
byte_told n l = ap byte_in (decimal_words n) ∙ byte_back n l

fits_number : (c : TraceCall) → fits c ≡ true → trace_calls.number_of c < 65536
fits_number c f = ltb-true (trace_calls.number_of c) 65536 (and_parts (ltb (trace_calls.number_of c) 65536) (ltb (trace_calls.fill_of c) 256) f).0

fits_fill : (c : TraceCall) → fits c ≡ true → trace_calls.fill_of c < 256
fits_fill c f = ltb-true (trace_calls.fill_of c) 256 (and_parts (ltb (trace_calls.number_of c) 65536) (ltb (trace_calls.fill_of c) 256) f).1

call_plain : (c : TraceCall) → plain (call_line c) ≡ true
call_plain (Begin place fill) =
    plain_append (codes "begin ") (decimal place ++ (codes " fill " ++ decimal fill)) refl
    (plain_append (decimal place) (codes " fill " ++ decimal fill) (digits_plain 5 place) (plain_append (codes " fill ") (decimal fill) refl (digits_plain 5 fill)))
call_plain (Finish ticket) = plain_append (codes "finish ") (decimal ticket) refl (digits_plain 5 ticket)
call_plain (Withdraw ticket) = plain_append (codes "withdraw ") (decimal ticket) refl (digits_plain 5 ticket)
call_plain (Read place) = plain_append (codes "read ") (decimal place) refl (digits_plain 5 place)
call_plain Step = refl
call_plain Seal = refl
call_plain (Restart choice) = plain_append (codes "restart ") (decimal choice) refl (digits_plain 5 choice)
call_plain (Cut choice) = plain_append (codes "cut ") (decimal choice) refl (digits_plain 5 choice)

module _ (t : Trace) where
  numbered : (make : ℕ → TraceCall) (n : ℕ) → n < 65536 → or_mistake (option_map make (number_in (words (decimal n)))) Arguments (λ call. called call t) ≡ called (make n) t
  numbered make n l = ap (λ o. or_mistake (option_map make o) Arguments (λ call. called call t)) (number_told n l)

  chosen : (make : ℕ → TraceCall) (n : ℕ) → n < 256 → or_mistake (option_map make (byte_in (words (decimal n)))) Arguments (λ call. called call t) ≡ called (make n) t
  chosen make n l = ap (λ o. or_mistake (option_map make o) Arguments (λ call. called call t)) (byte_told n l)

  begun : (place fill : ℕ) → place < 65536 → fill < 256 →
      or_mistake (begin_in (words (decimal place ++ (codes " fill " ++ decimal fill)))) Arguments (λ call. called call t) ≡ called (Begin place fill) t
  begun place fill p f =
      ap (λ ws. or_mistake (begin_in ws) Arguments (λ call. called call t)) (words_front (decimal place) (codes "fill " ++ decimal fill) (digits_some 4 place) (digits_dark 5 place))
      ∙ ap (λ o. or_mistake (and_then o (λ n. and_then (byte_in (words (decimal fill))) (λ b. Some (Begin n b)))) Arguments (λ call. called call t)) (number_back place p)
      ∙ ap (λ o. or_mistake (and_then o (λ b. Some (Begin place b))) Arguments (λ call. called call t)) (byte_told fill f)

  call_stated : (c : TraceCall) → fits c ≡ true → stated (words (call_line c)) t ≡ called c t
  call_stated (Begin place fill) f = begun place fill (fits_number (Begin place fill) f) (fits_fill (Begin place fill) f)
  call_stated (Finish ticket) f = numbered (λ n. Finish n) ticket (fits_number (Finish ticket) f)
  call_stated (Withdraw ticket) f = numbered (λ n. Withdraw n) ticket (fits_number (Withdraw ticket) f)
  call_stated (Read place) f = numbered (λ n. Read n) place (fits_number (Read place) f)
  call_stated Step f = refl
  call_stated Seal f = refl
  call_stated (Restart choice) f = chosen (λ n. Restart n) choice (fits_fill (Restart choice) f)
  call_stated (Cut choice) f = chosen (λ n. Cut n) choice (fits_fill (Cut choice) f)

  call_told : (c : TraceCall) → fits c ≡ true → stated (words (uncommented (call_line c))) t ≡ called c t
  call_told c f = ap (λ l. stated (words l) t) (uncommented_plain (call_line c) (call_plain c)) ∙ call_stated c f

-- a trace with these calls behind its own
abbrev and_calls : Trace → List TraceCall → Trace
and_calls t cs = record { mode = t.mode; retry = t.retry; plan = t.plan; calls = t.calls ++ cs }

calls_told : (n : ℕ) (cs : List TraceCall) (t : Trace) → all_fit cs ≡ true → length t.calls + length cs ≤ 1000 → from_line n (map call_line cs) t ≡ Ok (and_calls t cs)
calls_told n [] t f l = ap (λ xs. Ok (record { mode = t.mode; retry = t.retry; plan = t.plan; calls = xs })) (sym (append-nil t.calls))
calls_told n (c ∷ cs) t f l =
    let h = and_parts (fits c) (all_fit cs) f in
    ap (at_line n (from_line (n + 1) (map call_line cs))) (call_told t c h.0)
    ∙ ap (λ b. at_line n (from_line (n + 1) (map call_line cs)) (cond b (Ok (with_call c t)) (Err CallsFull))) (lt-ltb (length t.calls) 1000 (omega arith))
    ∙ calls_told (n + 1) cs (with_call c t) h.1 (omega (arith, length-append t.calls (c ∷ [])))
    ∙ ap (λ xs. Ok (record { mode = t.mode; retry = t.retry; plan = t.plan; calls = xs })) (append_assoc t.calls (c ∷ []) cs)

-- the plan's line says the plan
entry_words : (b : ℕ) → (0 < length (entry_name b)) × (free is_blank (entry_name b) ≡ true) × (plain (entry_name b) ≡ true)
entry_words b = go (eqb b 0)
  where
    go : (t : Bool) → (0 < length (cond t (codes "good") (codes "bad"))) × (free is_blank (cond t (codes "good") (codes "bad")) ≡ true) × (plain (cond t (codes "good") (codes "bad")) ≡ true)
    go true = (omega arith, refl, refl)
    go false = (omega arith, refl, refl)

plan_words : (w : List ℕ) (plan : List ℕ) → 0 < length w → free is_blank w ≡ true → words (w ++ flat_map (λ b. 32 ∷ entry_name b) plan) ≡ w ∷ map entry_name plan
plan_words w [] l p = ap words (append-nil w) ∙ words_last w l p
plan_words w (b ∷ bs) l p =
    let e = entry_words b in
    words_front w (entry_name b ++ flat_map (λ b. 32 ∷ entry_name b) bs) l p
    ∙ ap (λ ws. w ∷ ws) (plan_words (entry_name b) bs e.0 e.1)

plan_plain : (w : List ℕ) (plan : List ℕ) → plain w ≡ true → plain (w ++ flat_map (λ b. 32 ∷ entry_name b) plan) ≡ true
plan_plain w [] p = ap plain (append-nil w) ∙ p
plan_plain w (b ∷ bs) p = plain_append w (32 ∷ entry_name b ++ flat_map (λ b. 32 ∷ entry_name b) bs) p (plan_plain (32 ∷ entry_name b) bs (entry_words b).2)

entry_back : (b : ℕ) → leb b 1 ≡ true → (bad : Bool) × (entry_of (entry_name b) ≡ Some bad) × (flag_byte bad ≡ b)
entry_back zero e = (false, refl, refl)
entry_back (suc zero) e = (true, refl, refl)
entry_back (suc (suc b)) e = absurd (omega (arith, leb-true (suc (suc b)) 1 e))

abbrev and_plan : Trace → List ℕ → Trace
and_plan t plan = record { mode = t.mode; retry = t.retry; plan = t.plan ++ plan; calls = t.calls }

plan_told : (plan : List ℕ) (t : Trace) → all_entries plan ≡ true → length t.plan + length plan ≤ 256 → entered (map entry_name plan) t ≡ Ok (and_plan t plan)
plan_told [] t a l = ap (λ xs. Ok (record { mode = t.mode; retry = t.retry; plan = xs; calls = t.calls })) (sym (append-nil t.plan))
plan_told (b ∷ bs) t a l =
    let h = and_parts (leb b 1) (all_entries bs) a in
    let e = entry_back b h.0 in
    ap (λ o. or_mistake o Arguments (λ bad. cond (ltb (length t.plan) 256) (entered (map entry_name bs) (with_entry bad t)) (Err PlanFull))) e.1
    ∙ ap (λ u. cond u (entered (map entry_name bs) (with_entry e.0 t)) (Err PlanFull)) (lt-ltb (length t.plan) 256 (omega arith))
    ∙ plan_told bs (with_entry e.0 t) h.1 (omega (arith, length-append t.plan (flag_byte e.0 ∷ [])))
    ∙ ap (λ xs. Ok (record { mode = t.mode; retry = t.retry; plan = xs; calls = t.calls })) (append_assoc t.plan (flag_byte e.0 ∷ []) bs)
    ∙ ap (λ x. Ok (and_plan t (x ∷ bs))) e.2

mode_told : (m : Mode) (t : Trace) → stated (words (uncommented (mode_line m))) t ≡ Ok (with_mode m t)
mode_told Overlap t = refl
mode_told Line t = refl
mode_told Journaled t = refl

retry_told : (r : Bool) (t : Trace) → stated (words (uncommented (retry_line r))) t ≡ Ok (with_retry r t)
retry_told false t = refl
retry_told true t = refl

plan_line_told : (plan : List ℕ) (t : Trace) → all_entries plan ≡ true → length t.plan + length plan ≤ 256 → stated (words (uncommented (plan_line plan))) t ≡ Ok (and_plan t plan)
plan_line_told plan t a l =
    ap (λ l. stated (words l) t) (uncommented_plain (plan_line plan) (plan_plain (codes "plan") plan refl))
    ∙ ap (λ ws. stated ws t) (plan_words (codes "plan") plan (omega arith) refl)
    ∙ plan_told plan t a l

-- a text is short enough
call_short : (c : TraceCall) → length (call_line c) ≤ 22
call_short (Begin place fill) =
    omega (arith, length-append (decimal place) (codes " fill " ++ decimal fill), digits_few 5 place, digits_few 5 fill)
call_short (Finish ticket) = omega (arith, digits_few 5 ticket)
call_short (Withdraw ticket) = omega (arith, digits_few 5 ticket)
call_short (Read place) = omega (arith, digits_few 5 place)
call_short Step = omega arith
call_short Seal = omega arith
call_short (Restart choice) = omega (arith, digits_few 5 choice)
call_short (Cut choice) = omega (arith, digits_few 5 choice)

calls_short : (cs : List TraceCall) → length (line_by_line (map call_line cs)) ≤ 23 * length cs
calls_short [] = omega arith
calls_short (c ∷ cs) =
    omega (arith, length-append (call_line c ++ 10 ∷ []) (line_by_line (map call_line cs)), length-append (call_line c) (10 ∷ []), call_short c, calls_short cs)

entry_short : (b : ℕ) → length (entry_name b) ≤ 4
entry_short b = go (eqb b 0)
  where
    go : (t : Bool) → length (cond t (codes "good") (codes "bad")) ≤ 4
    go true = omega arith
    go false = omega arith

plan_short : (plan : List ℕ) → length (flat_map (λ b. 32 ∷ entry_name b) plan) ≤ 5 * length plan
plan_short [] = omega arith
plan_short (b ∷ bs) = omega (arith, length-append (entry_name b) (flat_map (λ b. 32 ∷ entry_name b) bs), entry_short b, plan_short bs)

mode_short : (m : Mode) → length (mode_line m) ≤ 14
mode_short Overlap = omega arith
mode_short Line = omega arith
mode_short Journaled = omega arith

retry_short : (r : Bool) → length (retry_line r) ≤ 7
retry_short false = omega arith
retry_short true = omega arith

text_short : (t : Trace) → WellFormed t → length (text_of t) ≤ 1048576
text_short t w =
    omega (
      arith,
      length-append (mode_line t.mode ++ 10 ∷ []) ((retry_line t.retry ++ 10 ∷ []) ++ ((plan_line t.plan ++ 10 ∷ []) ++ line_by_line (map call_line t.calls))),
      length-append (mode_line t.mode) (10 ∷ []),
      length-append (retry_line t.retry ++ 10 ∷ []) ((plan_line t.plan ++ 10 ∷ []) ++ line_by_line (map call_line t.calls)),
      length-append (retry_line t.retry) (10 ∷ []),
      length-append (plan_line t.plan ++ 10 ∷ []) (line_by_line (map call_line t.calls)),
      length-append (plan_line t.plan) (10 ∷ []),
      mode_short t.mode,
      retry_short t.retry,
      plan_short t.plan,
      calls_short t.calls,
      w.short,
      w.few,
    )

calls_plain : (cs : List TraceCall) → all_plain (map call_line cs) ≡ true
calls_plain [] = refl
calls_plain (c ∷ cs) = and_from (plain (call_line c)) (all_plain (map call_line cs)) (call_plain c) (calls_plain cs)

mode_plain : (m : Mode) → plain (mode_line m) ≡ true
mode_plain Overlap = refl
mode_plain Line = refl
mode_plain Journaled = refl

retry_plain : (r : Bool) → plain (retry_line r) ≡ true
retry_plain false = refl
retry_plain true = refl

-- the text of a trace is assembled to it
pub assembled_text : (t : Trace) → WellFormed t → assembled (text_of t) ≡ Ok t
assembled_text t w =
    ap (λ b. cond b (from_line 1 (lines (text_of t)) (bare Overlap false)) (Err assembly_error.TooLong)) (le-leb (length (text_of t)) 1048576 (text_short t w))
    ∙ ap (λ ls. from_line 1 ls (bare Overlap false)) (lines_back all plain_lines)
    ∙ ap (at_line 1 (from_line 2 (retry_line t.retry ∷ (plan_line t.plan ∷ calls)))) (mode_told t.mode (bare Overlap false))
    ∙ ap (at_line 2 (from_line 3 (plan_line t.plan ∷ calls))) (retry_told t.retry (bare t.mode false))
    ∙ ap (at_line 3 (from_line 4 calls)) (plan_line_told t.plan (bare t.mode t.retry) w.entries (omega (arith, w.short)))
    ∙ calls_told 4 t.calls (record { mode = t.mode; retry = t.retry; plan = t.plan; calls = [] }) w.fitting (omega (arith, w.few))
  where
    calls : List (List ℕ)
    calls = map call_line t.calls

    all : List (List ℕ)
    all = mode_line t.mode ∷ (retry_line t.retry ∷ (plan_line t.plan ∷ calls))

    plain_lines : all_plain all ≡ true
    plain_lines =
        and_from (plain (mode_line t.mode)) (plain (retry_line t.retry) && (plain (plan_line t.plan) && all_plain calls)) (mode_plain t.mode)
        (and_from (plain (retry_line t.retry)) (plain (plan_line t.plan) && all_plain calls) (retry_plain t.retry)
        (and_from (plain (plan_line t.plan)) (all_plain calls) (plan_plain (codes "plan") t.plan refl) (calls_plain t.calls)))

-- so is a text that was found to be one
pub reads_back : (text : List ℕ) (r : Result CodeTrace AssemblyError) → Assembles (assembled text) r → ReadsBack text r
reads_back text r h t w e = go r h (ap assembled e ∙ assembled_text t w)
  where
    go : (r : Result CodeTrace AssemblyError) → Assembles (assembled text) r → assembled text ≡ Ok t → Gives t r
    go (Ok u) h q = let same : ◌≡◌ {A = Result Trace AssemblyError} (Ok (trace_of u)) (Ok t) = sym h ∙ q in cc
    go (Err assembly_error.TooLong) h q = let z : ◌≡◌ {A = ℕ} 0 1 = let same : ◌≡◌ {A = Result Trace AssemblyError} (Err assembly_error.TooLong) (Ok t) = sym h ∙ q in cc in omega arith
    go (Err (assembly_error.Line n m)) h q = let z : ◌≡◌ {A = ℕ} 0 1 = let same : ◌≡◌ {A = Result Trace AssemblyError} (Err (assembly_error.Line n m)) (Ok t) = sym h ∙ q in cc in omega arith
    go (Err assembly_error.NoMemory) h q = tt
