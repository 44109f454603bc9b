-- A trace that is encoded is decoded again, and what is decoded is, but for what is ignored, the encoding.
use Rattle.std.proofs.Common.{◌≡◌, ℕ, zero, suc, ◌+◌, ◌*◌, ◌/◌, ◌%◌, ◌<◌, ◌≤◌, Bool, true, false, cond, ◌&&◌, eqb, leb, List, [], ◌∷◌, ◌++◌, length, get_or, take, drop, Some, None, Option, sym, refl, ap, ◌∙◌, subst, arith}
use Rattle.std.specs.List.{flat_map}
use Rattle.std.proofs.lemmas.Bool.{le-leb, leb-true, eqb-true, and_from, and_parts, cond-true}
use Rattle.std.proofs.lemmas.List.{append_assoc, append-nil, length-append, length-take-le, take-append-drop, take_at, drop_at, get_or-append-add, nil_from_length}
use Rattle.trace.specs.declared.call.Mode.{Mode}
use Rattle.trace.specs.declared.call.Mode.TheVariants.{Overlap, Line, Journaled}
use Rattle.trace.specs.declared.call.TraceCall.{TraceCall}
use Rattle.trace.specs.declared.call.TraceCall.TheVariants.{Begin, Finish, Withdraw, Read, Step, Seal, Restart, Cut}
use Rattle.trace.specs.Calls.{mode_byte, mode_of, flag_byte, flag_of, code_of, number_of, fill_of, two_bytes, call_bytes, call_of}
use Rattle.trace.specs.Format.{Trace, Sections, section, sections, and_then, calls_of, decode, encode, all_entries, canonical, canonical_call, canonical_calls, calls_start}

-- what is left to find once the options and the plan are found
abbrev ending : Mode → Bool → List ℕ → Option (List ℕ × List ℕ) → Option Sections
ending m r plan o = and_then o (λ calls. cond (eqb (length calls.1) 0) (Some (record { mode = m; retry = r; plan = plan; calls = calls.0 })) None)

-- all that follows the first count
abbrev found : Option Mode → Option Bool → Option (List ℕ × List ℕ) → Option Sections
found om or op = and_then om (λ m. and_then or (λ r. and_then op (λ plan. ending m r plan.0 (section 1000 4 plan.1))))

low_high : (n : ℕ) → n % 256 + 256 * (n / 256) ≡ n
low_high n = omega arith

-- a section that was put together
section_back : (most width n : ℕ) (front back : List ℕ) → n ≤ most → length front ≡ n * width → section most width (two_bytes n ++ (front ++ back)) ≡ Some (front, back)
section_back most width n front back few e =
    ap (λ k. cond (leb k most && leb (k * width) (length (front ++ back))) (Some (take (k * width) (front ++ back), drop (k * width) (front ++ back))) None) (low_high n)
    ∙ cond-true (leb n most && leb (n * width) (length (front ++ back))) (Some (take (n * width) (front ++ back), drop (n * width) (front ++ back))) None
    (and_from (leb n most) (leb (n * width) (length (front ++ back))) (le-leb n most few) (le-leb (n * width) (length (front ++ back)) (omega (arith, length-append front back))))
    ∙ ap (λ xs. Some (xs, drop (n * width) (front ++ back))) (take_at front back (n * width) e)
    ∙ ap (λ xs. Some (front, xs)) (drop_at front back (n * width) e)

mode_back : (m : Mode) → mode_of (mode_byte m) ≡ Some m
mode_back Overlap = refl
mode_back Line = refl
mode_back Journaled = refl

flag_back : (r : Bool) → flag_of (flag_byte r) ≡ Some r
flag_back false = refl
flag_back true = refl

call_back : (c : TraceCall) → call_of (code_of c) (number_of c) (fill_of c) ≡ Some c
call_back (Begin place fill) = refl
call_back (Finish ticket) = refl
call_back (Withdraw ticket) = refl
call_back (Read place) = refl
call_back Step = refl
call_back Seal = refl
call_back (Restart choice) = refl
call_back (Cut choice) = refl

calls_back : (cs : List TraceCall) → calls_of (flat_map call_bytes cs) ≡ Some cs
calls_back [] = refl
calls_back (c ∷ cs) =
    ap (λ n. and_then (call_of (code_of c) n (fill_of c)) (λ call. and_then (calls_of (flat_map call_bytes cs)) (λ calls. Some (call ∷ calls)))) (low_high (number_of c))
    ∙ ap (λ o. and_then o (λ call. and_then (calls_of (flat_map call_bytes cs)) (λ calls. Some (call ∷ calls)))) (call_back c)
    ∙ ap (λ o. and_then o (λ calls. Some (c ∷ calls))) (calls_back cs)

length_calls : (cs : List TraceCall) → length (flat_map call_bytes cs) ≡ length cs * 4
length_calls [] = refl
length_calls (c ∷ cs) = omega (arith, length_calls cs)

sections_back : (t : Trace) → length t.plan ≤ 256 → length t.calls ≤ 1000 →
    sections (encode t) ≡ Some (record { mode = t.mode; retry = t.retry; plan = t.plan; calls = flat_map call_bytes t.calls })
sections_back t p n =
    ap (λ o. found o (flag_of (flag_byte t.retry)) (section 256 1 rest)) (mode_back t.mode)
    ∙ ap (λ o. found (Some t.mode) o (section 256 1 rest)) (flag_back t.retry)
    ∙ ap (λ o. found (Some t.mode) (Some t.retry) o) (section_back 256 1 (length t.plan) t.plan last p (omega arith))
    ∙ ap (λ bs. ending t.mode t.retry t.plan (section 1000 4 (two_bytes (length t.calls) ++ bs))) (sym (append-nil calls))
    ∙ ap (ending t.mode t.retry t.plan) (section_back 1000 4 (length t.calls) calls [] n (length_calls t.calls))
  where
    calls : List ℕ
    calls = flat_map call_bytes t.calls

    last : List ℕ
    last = two_bytes (length t.calls) ++ calls

    rest : List ℕ
    rest = two_bytes (length t.plan) ++ (t.plan ++ last)

-- what was encoded is decoded again
pub decode_encode : (t : Trace) → length t.plan ≤ 256 → all_entries t.plan ≡ true → length t.calls ≤ 1000 → decode (encode t) ≡ Some t
decode_encode t p a n =
    ap (λ o. and_then o (λ s. cond (all_entries s.plan) (and_then (calls_of s.calls) (made s)) None)) (sections_back t p n)
    ∙ ap (λ b. cond b (and_then (calls_of (flat_map call_bytes t.calls)) (made s)) None) a
    ∙ ap (λ o. and_then o (made s)) (calls_back t.calls)
  where
    s : Sections
    s = record { mode = t.mode; retry = t.retry; plan = t.plan; calls = flat_map call_bytes t.calls }

    made : Sections → List TraceCall → Option Trace
    made s calls = Some (record { mode = s.mode; retry = s.retry; plan = s.plan; calls = calls })

-- every element is a byte
abbrev pub Bytes : List ℕ → Type 0
Bytes bs = (k : ℕ) → get_or bs k 0 < 256

bytes_behind : (xs ys : List ℕ) → Bytes (xs ++ ys) → Bytes ys
bytes_behind xs ys b k = subst (λ x. x < 256) (get_or-append-add xs ys k 0) (b (length xs + k))

none_some : {A : Type 0} {x : A} → None ≡ Some x → ⊥
none_some e = let z : ◌≡◌ {A = ℕ} 0 1 = cc in omega arith

and_then_some : {A B : Type 0} (o : Option A) (f : A → Option B) {y : B} → and_then o f ≡ Some y → (x : A) × (o ≡ Some x) × (f x ≡ Some y)
and_then_some None f e = absurd (none_some e)
and_then_some (Some x) f e = (x, refl, e)

cond_some : {A : Type 0} (b : Bool) (o : Option A) {y : A} → cond b o None ≡ Some y → (b ≡ true) × (o ≡ Some y)
cond_some false o e = absurd (none_some e)
cond_some true o e = (refl, e)

mode_byte_of : (b : ℕ) (m : Mode) → mode_of b ≡ Some m → b ≡ mode_byte m
mode_byte_of zero m e = let q : Overlap ≡ m = cc in ap mode_byte q
mode_byte_of (suc zero) m e = let q : Line ≡ m = cc in ap mode_byte q
mode_byte_of (suc (suc zero)) m e = let q : Journaled ≡ m = cc in ap mode_byte q
mode_byte_of (suc (suc (suc b))) m e = absurd (none_some e)

flag_byte_of : (b : ℕ) (r : Bool) → flag_of b ≡ Some r → b ≡ flag_byte r
flag_byte_of zero r e = let q : false ≡ r = cc in ap flag_byte q
flag_byte_of (suc zero) r e = let q : true ≡ r = cc in ap flag_byte q
flag_byte_of (suc (suc b)) r e = absurd (none_some e)

-- a section that was found: its count, and where its entries lie
record Counted (most width : ℕ) (bs front back : List ℕ) : Type 0 where
  count : ℕ
  few : count ≤ most
  size : length front ≡ count * width
  laid : bs ≡ two_bytes count ++ (front ++ back)

counted : (most width : ℕ) (bs front back : List ℕ) → Bytes bs → section most width bs ≡ Some (front, back) → Counted most width bs front back
counted most width [] front back b e = absurd (none_some e)
counted most width (x ∷ []) front back b e = absurd (none_some e)
counted most width (low ∷ (high ∷ rest)) front back b e = record {
  count = n;
  few = leb-true n most tests.0;
  size = ap length (sym fronts) ∙ length-take-le (n * width) rest (leb-true (n * width) (length rest) tests.1);
  laid = ap (λ x. x ∷ (high ∷ rest)) (let q : low ≡ n % 256 = omega (arith, b 0) in q)
      ∙ ap (λ x. n % 256 ∷ (x ∷ rest)) (let q : high ≡ n / 256 = omega (arith, b 0) in q)
      ∙ ap (λ xs. two_bytes n ++ xs) (sym (take-append-drop (n * width) rest) ∙ ap (λ xs. xs ++ drop (n * width) rest) fronts ∙ ap (λ xs. front ++ xs) backs);
}
  where
    n : ℕ
    n = low + 256 * high

    both : ((leb n most && leb (n * width) (length rest)) ≡ true) × (◌≡◌ {A = Option (List ℕ × List ℕ)} (Some (take (n * width) rest, drop (n * width) rest)) (Some (front, back)))
    both = cond_some (leb n most && leb (n * width) (length rest)) (Some (take (n * width) rest, drop (n * width) rest)) e

    tests : (leb n most ≡ true) × (leb (n * width) (length rest) ≡ true)
    tests = and_parts (leb n most) (leb (n * width) (length rest)) both.0

    pair : ◌≡◌ {A = List ℕ × List ℕ} (take (n * width) rest, drop (n * width) rest) (front, back)
    pair = let h = both.1 in cc

    fronts : take (n * width) rest ≡ front
    fronts = ap (λ (p : List ℕ × List ℕ). p.0) pair

    backs : drop (n * width) rest ≡ back
    backs = ap (λ (p : List ℕ × List ℕ). p.1) pair

-- the sections that were found, and where they lie
record Laid (bs : List ℕ) (s : Sections) : Type 0 where
  entries : ℕ
  listed : ℕ
  few_entries : entries ≤ 256
  few_listed : listed ≤ 1000
  plan_size : length s.plan ≡ entries
  calls_size : length s.calls ≡ listed * 4
  whole : bs ≡ 2 ∷ (mode_byte s.mode ∷ (flag_byte s.retry ∷ two_bytes entries ++ (s.plan ++ (two_bytes listed ++ s.calls))))

laid : (bs : List ℕ) (s : Sections) → Bytes bs → sections bs ≡ Some s → Laid bs s
laid [] s b e = absurd (none_some e)
laid (x ∷ []) s b e = absurd (none_some e)
laid (x ∷ (y ∷ [])) s b e = absurd (none_some e)
laid (count ∷ (mode ∷ (retry ∷ bs))) s b e =
    let first = cond_some (eqb count 2) (found (mode_of mode) (flag_of retry) (section 256 1 bs)) e in
    let m = and_then_some (mode_of mode) (λ m. and_then (flag_of retry) (λ r. and_then (section 256 1 bs) (λ plan. ending m r plan.0 (section 1000 4 plan.1)))) first.1 in
    let r = and_then_some (flag_of retry) (λ r. and_then (section 256 1 bs) (λ plan. ending m.0 r plan.0 (section 1000 4 plan.1))) m.2 in
    let p = and_then_some (section 256 1 bs) (λ plan. ending m.0 r.0 plan.0 (section 1000 4 plan.1)) r.2 in
    let c = and_then_some (section 1000 4 p.0.1) (λ calls. cond (eqb (length calls.1) 0) (Some (record { mode = m.0; retry = r.0; plan = p.0.0; calls = calls.0 })) None) p.2 in
    let last = cond_some (eqb (length c.0.1) 0) (Some (record { mode = m.0; retry = r.0; plan = p.0.0; calls = c.0.0 })) c.2 in
    laid_by count mode retry bs m.0 r.0 p.0.0 p.0.1 c.0.0 c.0.1 s b
    (eqb-true count 2 first.0) (mode_byte_of mode m.0 m.1) (flag_byte_of retry r.0 r.1) p.1 c.1 (eqb-true (length c.0.1) 0 last.0) last.1
  where
    laid_by : (count mode retry : ℕ) (bs : List ℕ) (m : Mode) (r : Bool) (plan behind calls none : List ℕ) (s : Sections) → Bytes (count ∷ (mode ∷ (retry ∷ bs))) →
        count ≡ 2 → mode ≡ mode_byte m → retry ≡ flag_byte r → section 256 1 bs ≡ Some (plan, behind) → section 1000 4 behind ≡ Some (calls, none) →
        length none ≡ 0 → Some (record { mode = m; retry = r; plan = plan; calls = calls }) ≡ Some s → Laid (count ∷ (mode ∷ (retry ∷ bs))) s
    laid_by count mode retry bs m r plan behind calls none s b ce me re pe ke ne se =
        let p = counted 256 1 bs plan behind (bytes_behind (count ∷ (mode ∷ (retry ∷ []))) bs b) pe in
        let rest : Bytes (plan ++ behind) = bytes_behind (two_bytes p.count) (plan ++ behind) (subst Bytes p.laid (bytes_behind (count ∷ (mode ∷ (retry ∷ []))) bs b)) in
        let k = counted 1000 4 behind calls none (bytes_behind plan behind rest) ke in
        let same : record { mode = m; retry = r; plan = plan; calls = calls } ≡ s = cc in
        subst (λ (x : Sections). Laid (count ∷ (mode ∷ (retry ∷ bs))) x) same (record {
          entries = p.count;
          listed = k.count;
          few_entries = p.few;
          few_listed = k.few;
          plan_size = omega (arith, p.size);
          calls_size = k.size;
          whole = ap (λ x. x ∷ (mode ∷ (retry ∷ bs))) ce ∙ ap (λ x. 2 ∷ (x ∷ (retry ∷ bs))) me ∙ ap (λ x. 2 ∷ (mode_byte m ∷ (x ∷ bs))) re
              ∙ ap (λ xs. 2 ∷ (mode_byte m ∷ (flag_byte r ∷ xs))) (p.laid ∙ ap (λ xs. two_bytes p.count ++ (plan ++ xs)) (k.laid
              ∙ ap (λ xs. two_bytes k.count ++ (calls ++ xs)) (nil_from_length none ne) ∙ ap (λ xs. two_bytes k.count ++ xs) (append-nil calls)));
        })

numbered : (code last n low high : ℕ) → low ≡ n % 256 → high ≡ n / 256 → code ∷ (low ∷ (high ∷ (last ∷ []))) ≡ code ∷ two_bytes n ++ (last ∷ [])
numbered code last n low high l h = ap (λ x. code ∷ (x ∷ (high ∷ (last ∷ [])))) l ∙ ap (λ x. code ∷ (n % 256 ∷ (x ∷ (last ∷ [])))) h

-- a call that was found, but for what is ignored
canonical_of : (code low high fill : ℕ) (c : TraceCall) → low < 256 → call_of code (low + 256 * high) fill ≡ Some c → canonical_call code low high fill ≡ call_bytes c
canonical_of code low high fill c b e =
    let l : low ≡ (low + 256 * high) % 256 = omega arith in
    let h : high ≡ (low + 256 * high) / 256 = omega arith in
    go code (low + 256 * high) low high l h e
  where
    go : (code n low high : ℕ) → low ≡ n % 256 → high ≡ n / 256 → call_of code n fill ≡ Some c → canonical_call code low high fill ≡ call_bytes c
    go zero n low high l h e = absurd (none_some e)
    go (suc zero) n low high l h e = let q : Begin n fill ≡ c = cc in numbered 1 fill n low high l h ∙ ap call_bytes q
    go (suc (suc zero)) n low high l h e = let q : Finish n ≡ c = cc in numbered 2 0 n low high l h ∙ ap call_bytes q
    go (suc (suc (suc zero))) n low high l h e = let q : Withdraw n ≡ c = cc in numbered 3 0 n low high l h ∙ ap call_bytes q
    go (suc (suc (suc (suc zero)))) n low high l h e = let q : Read n ≡ c = cc in numbered 4 0 n low high l h ∙ ap call_bytes q
    go (suc (suc (suc (suc (suc zero))))) n low high l h e = let q : Step ≡ c = cc in ap call_bytes q
    go (suc (suc (suc (suc (suc (suc zero)))))) n low high l h e = let q : Seal ≡ c = cc in ap call_bytes q
    go (suc (suc (suc (suc (suc (suc (suc zero))))))) n low high l h e = let q : Restart fill ≡ c = cc in ap call_bytes q
    go (suc (suc (suc (suc (suc (suc (suc (suc zero)))))))) n low high l h e = let q : Cut fill ≡ c = cc in ap call_bytes q
    go (suc (suc (suc (suc (suc (suc (suc (suc (suc code))))))))) n low high l h e = absurd (none_some e)

-- all calls that were found
record Listed (bs : List ℕ) (cs : List TraceCall) : Type 0 where
  same : canonical_calls bs ≡ flat_map call_bytes cs
  size : length bs ≡ length cs * 4

listed : (bs : List ℕ) (cs : List TraceCall) → Bytes bs → calls_of bs ≡ Some cs → Listed bs cs
listed [] cs b e = let q : [] ≡ cs = cc in subst (Listed []) q (record { same = refl; size = refl })
listed (x ∷ []) cs b e = absurd (none_some e)
listed (x ∷ (y ∷ [])) cs b e = absurd (none_some e)
listed (x ∷ (y ∷ (z ∷ []))) cs b e = absurd (none_some e)
listed (code ∷ (low ∷ (high ∷ (fill ∷ bs)))) cs b e =
    let c = and_then_some (call_of code (low + 256 * high) fill) (λ call. and_then (calls_of bs) (λ calls. Some (call ∷ calls))) e in
    let r = and_then_some (calls_of bs) (λ calls. Some (c.0 ∷ calls)) c.2 in
    let q : c.0 ∷ r.0 ≡ cs = let h = r.2 in cc in
    let more = listed bs r.0 (bytes_behind (code ∷ (low ∷ (high ∷ (fill ∷ [])))) bs b) r.1 in
    subst (Listed (code ∷ (low ∷ (high ∷ (fill ∷ bs))))) q (record {
      same = ap (λ xs. xs ++ canonical_calls bs) (canonical_of code low high fill c.0 (b 1) c.1) ∙ ap (λ xs. call_bytes c.0 ++ xs) more.same;
      size = omega (arith, more.size);
    })

-- the input up to the calls
abbrev front : Mode → Bool → List ℕ → ℕ → List ℕ
front m r plan n = 2 ∷ (mode_byte m ∷ (flag_byte r ∷ two_bytes (length plan) ++ (plan ++ two_bytes n)))

canonical_at : (m : Mode) (r : Bool) (plan calls : List ℕ) (n : ℕ) → canonical (front m r plan n ++ calls) ≡ front m r plan n ++ canonical_calls calls
canonical_at m r plan calls n =
    ap (λ k. take k bs ++ canonical_calls (drop k bs)) start
    ∙ ap (λ xs. xs ++ canonical_calls (drop (length before) bs)) (take_at before calls (length before) refl)
    ∙ ap (λ xs. before ++ canonical_calls xs) (drop_at before calls (length before) refl)
  where
    before : List ℕ
    before = front m r plan n

    bs : List ℕ
    bs = before ++ calls

    start : calls_start bs ≡ length before
    start = omega (arith, low_high (length plan), length-append plan (two_bytes n))

shape : (bs : List ℕ) (s : Sections) (l : Laid bs s) → bs ≡ front s.mode s.retry s.plan l.listed ++ s.calls
shape bs s l =
    l.whole
    ∙ ap (λ k. 2 ∷ (mode_byte s.mode ∷ (flag_byte s.retry ∷ two_bytes k ++ (s.plan ++ (two_bytes l.listed ++ s.calls))))) (sym l.plan_size)
    ∙ ap (λ xs. 2 ∷ (mode_byte s.mode ∷ (flag_byte s.retry ∷ two_bytes (length s.plan) ++ xs))) (sym (append_assoc s.plan (two_bytes l.listed) s.calls))

calls_bytes : (bs : List ℕ) (s : Sections) → Bytes bs → Laid bs s → Bytes s.calls
calls_bytes bs s b l = bytes_behind (front s.mode s.retry s.plan l.listed) s.calls (subst Bytes (shape bs s l) b)

canonical_by : (bs : List ℕ) (s : Sections) (cs : List TraceCall) → Bytes bs → Laid bs s → calls_of s.calls ≡ Some cs →
    canonical bs ≡ encode (record { mode = s.mode; retry = s.retry; plan = s.plan; calls = cs })
canonical_by bs s cs b l e =
    ap canonical (shape bs s l)
    ∙ canonical_at s.mode s.retry s.plan s.calls l.listed
    ∙ ap (λ xs. start l.listed ++ xs) all.same
    ∙ ap (λ n. start n ++ flat_map call_bytes cs) (let q : l.listed ≡ length cs = omega (arith, l.calls_size, all.size) in q)
    ∙ ap (λ xs. 2 ∷ (mode_byte s.mode ∷ (flag_byte s.retry ∷ two_bytes (length s.plan) ++ xs))) (append_assoc s.plan (two_bytes (length cs)) (flat_map call_bytes cs))
  where
    start : ℕ → List ℕ
    start n = front s.mode s.retry s.plan n

    all : Listed s.calls cs
    all = listed s.calls cs (calls_bytes bs s b l) e

-- what was decoded is, but for what is ignored, the encoding
pub decode_canonical : (bs : List ℕ) (t : Trace) → Bytes bs → decode bs ≡ Some t → canonical bs ≡ encode t
decode_canonical bs t b e =
    let s = and_then_some (sections bs) (λ s. cond (all_entries s.plan) (and_then (calls_of s.calls) (made s)) None) e in
    let p = cond_some (all_entries s.0.plan) (and_then (calls_of s.0.calls) (made s.0)) s.2 in
    let k = and_then_some (calls_of s.0.calls) (made s.0) p.1 in
    let same : record { mode = s.0.mode; retry = s.0.retry; plan = s.0.plan; calls = k.0 } ≡ t = let h = k.2 in cc in
    canonical_by bs s.0 k.0 b (laid bs s.0 b s.1) k.1 ∙ ap encode same
  where
    made : Sections → List TraceCall → Option Trace
    made s calls = Some (record { mode = s.mode; retry = s.retry; plan = s.plan; calls = calls })

-- the bounds of what was found
pub plan_short : (bs : List ℕ) (s : Sections) → Bytes bs → sections bs ≡ Some s → length s.plan ≤ 256
plan_short bs s b e = let l = laid bs s b e in omega (arith, l.plan_size, l.few_entries)

pub calls_few : (bs : List ℕ) (s : Sections) (cs : List TraceCall) → Bytes bs → sections bs ≡ Some s → calls_of s.calls ≡ Some cs → length cs ≤ 1000
calls_few bs s cs b e k =
    let l = laid bs s b e in
    let c = listed s.calls cs (calls_bytes bs s b l) k in
    omega (arith, l.calls_size, l.few_listed, c.size)
