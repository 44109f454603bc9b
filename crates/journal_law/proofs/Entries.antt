-- Begin, finish and withdraw keep the table.
use Rattle.std.proofs.Common.{◌≡◌, ℕ, zero, suc, ◌<◌, ◌≤◌, Bool, true, false, cond, eqb, List, [], ◌∷◌, ◌++◌, map, set, sym, refl, ap, ◌∙◌, subst, arith}
use mathlib.Core.Option.{some}
use Rattle.std.proofs.lemmas.List.{map_push}
use Rattle.std.proofs.lemmas.Bool.{eqb-true}
use Rattle.std.proofs.ByRecursion.{All-push, All-weaker}
use Rattle.disk.specs.Medium.{Block, Write, lay}
use Rattle.head.specs.Head.{holds}
use Rattle.journal_law.specs.Cache.{Begun, place_of, begun_place, different, find, without, collect}
use Rattle.journal_law.specs.Ledger.{laid}
use Rattle.std.specs.List.{AllByRecursion}
use Rattle.journal_law.proofs.Tables.{Before, Elsewhere, laid_more, holds_append, lay_collect, holds_collect, once_collect, below_collect, different_mono, find_in, all_without, apart_push, apart_without, apart_found, holds_found, holds_without, fresh_open}
use Rattle.journal_law.proofs.Invariant.{Table}

-- a place that stands in one of two lists
in_either : (a b c d : Bool) → (a ≡ true → c ≡ true) → (b ≡ true → cond c true d ≡ true) → cond a true b ≡ true → cond c true d ≡ true
in_either true b c d f g h = subst (λ z. cond z true d ≡ true) (sym (f refl)) refl
in_either false b c d f g h = g h

pub either_right : (c d : Bool) → d ≡ true → cond c true d ≡ true
either_right true d h = refl
either_right false d h = h

pub no_writes : (n : ℕ) → Table n [] [] [] 0
no_writes n = record {
  open_marks = tt;
  done_marks = tt;
  apart = tt;
  later = tt;
  open_inside = tt;
  inside = refl;
  once = refl;
  room = none_different n;
}
  where
    none_different : (k : ℕ) → different k [] ≤ 8
    none_different zero = omega arith
    none_different (suc k) = omega (arith, none_different k)

-- ---- room for the places

module _ (n : ℕ) (open_writes : List Begun) (collected : List Write) where
  pub room_begin : (new : Begun) →
      different n (map place_of collected ++ map begun_place (open_writes ++ new ∷ [])) ≤ different n (new.write.place ∷ (map place_of collected ++ map begun_place open_writes))
  room_begin new = different_mono n (map place_of collected ++ map begun_place (open_writes ++ new ∷ [])) (new.write.place ∷ (map place_of collected ++ map begun_place open_writes)) moved
    where
      swap : (a b c : Bool) → cond a true (cond c true (cond b true false)) ≡ true → cond b true (cond a true c) ≡ true
      swap true true c h = refl
      swap true false c h = refl
      swap false true c h = refl
      swap false false true h = refl
      swap false false false h = h

      moved : (q : ℕ) → holds q (map place_of collected ++ map begun_place (open_writes ++ new ∷ [])) ≡ true →
          holds q (new.write.place ∷ (map place_of collected ++ map begun_place open_writes)) ≡ true
      moved q h =
          ap (λ z. cond (eqb new.write.place q) true z) (holds_append q (map place_of collected) (map begun_place open_writes))
          ∙ swap (holds q (map place_of collected)) (eqb new.write.place q) (holds q (map begun_place open_writes))
          (ap (λ z. cond (holds q (map place_of collected)) true z)
          (sym (ap (holds q) (map_push begun_place open_writes new) ∙ holds_append q (map begun_place open_writes) (new.write.place ∷ [])))
          ∙ sym (holds_append q (map place_of collected) (map begun_place (open_writes ++ new ∷ []))) ∙ h)

  -- without an open write
  fewer : (ticket : ℕ) (q : ℕ) → holds q (map place_of collected ++ map begun_place (without ticket open_writes)) ≡ true →
      holds q (map place_of collected ++ map begun_place open_writes) ≡ true
  fewer ticket q h =
      holds_append q (map place_of collected) (map begun_place open_writes)
      ∙ in_either (holds q (map place_of collected)) (holds q (map begun_place (without ticket open_writes))) (holds q (map place_of collected)) (holds q (map begun_place open_writes))
      (λ x. x) (λ x. either_right (holds q (map place_of collected)) (holds q (map begun_place open_writes)) (holds_without ticket q open_writes x))
      (sym (holds_append q (map place_of collected) (map begun_place (without ticket open_writes))) ∙ h)

  pub room_without : (ticket : ℕ) → different n (map place_of collected ++ map begun_place (without ticket open_writes)) ≤ different n (map place_of collected ++ map begun_place open_writes)
  room_without ticket = different_mono n (map place_of collected ++ map begun_place (without ticket open_writes)) (map place_of collected ++ map begun_place open_writes) (fewer ticket)

  pub room_finish : (ticket : ℕ) (o : Begun) → find ticket open_writes ≡ some o →
      different n (map place_of (collect o.write collected) ++ map begun_place (without ticket open_writes)) ≤ different n (map place_of collected ++ map begun_place open_writes)
  room_finish ticket o e = different_mono n (map place_of (collect o.write collected) ++ map begun_place (without ticket open_writes)) (map place_of collected ++ map begun_place open_writes) moved
    where
      one : (q : ℕ) (b d : Bool) → eqb o.write.place q ≡ b → (d ≡ true → holds q (map place_of collected ++ map begun_place open_writes) ≡ true) →
          cond b true d ≡ true → holds q (map place_of collected ++ map begun_place open_writes) ≡ true
      one q true d f g h = holds_append q (map place_of collected) (map begun_place open_writes)
          ∙ either_right (holds q (map place_of collected)) (holds q (map begun_place open_writes))
          (subst (λ z. holds z (map begun_place open_writes) ≡ true) (eqb-true o.write.place q f) (holds_found ticket open_writes o e))
      one q false d f g h = g h

      assoc : (a b d : Bool) → cond (cond a true b) true d ≡ cond a true (cond b true d)
      assoc true b d = refl
      assoc false b d = refl

      moved : (q : ℕ) → holds q (map place_of (collect o.write collected) ++ map begun_place (without ticket open_writes)) ≡ true →
          holds q (map place_of collected ++ map begun_place open_writes) ≡ true
      moved q h =
          let rest : Bool = holds q (map begun_place (without ticket open_writes)) in
          one q (eqb o.write.place q) (cond (holds q (map place_of collected)) true rest) refl
          (λ r. fewer ticket q (holds_append q (map place_of collected) (map begun_place (without ticket open_writes)) ∙ r))
          (sym (holds_append q (map place_of (collect o.write collected)) (map begun_place (without ticket open_writes))
          ∙ ap (λ z. cond z true rest) (holds_collect q o.write collected)
          ∙ assoc (eqb o.write.place q) (holds q (map place_of collected)) rest) ∙ h)

  pub room_seal : different n (map begun_place open_writes) ≤ different n (map place_of collected ++ map begun_place open_writes)
  room_seal = different_mono n (map begun_place open_writes) (map place_of collected ++ map begun_place open_writes)
      (λ q h. holds_append q (map place_of collected) (map begun_place open_writes) ∙ either_right (holds q (map place_of collected)) (holds q (map begun_place open_writes)) h)

module _ (n : ℕ) (open_writes finished : List Begun) (collected : List Write) (counter : ℕ) (t : Table n open_writes finished collected counter) where
  pub table_begin : (w : Write) → w.place < n → holds w.place (map begun_place open_writes) ≡ false →
      different n (w.place ∷ (map place_of collected ++ map begun_place open_writes)) ≤ 8 →
      Table n (open_writes ++ record { mark = suc counter; write = w } ∷ []) finished collected (suc counter)
  table_begin w l fresh room = record {
    open_marks = All-push (λ (o : Begun). o.mark ≤ suc counter) open_writes new
        (All-weaker (λ (o : Begun). o.mark ≤ counter) (λ (o : Begun). o.mark ≤ suc counter) (λ o h. omega arith) open_writes t.open_marks) (omega arith);
    done_marks = All-weaker (λ (o : Begun). o.mark ≤ counter) (λ (o : Begun). o.mark ≤ suc counter) (λ o h. omega arith) finished t.done_marks;
    apart = apart_push open_writes new t.apart (fresh_open w.place open_writes fresh);
    later = All-push (λ (o : Begun). AllByRecursion (Before o) finished) open_writes new t.later
        (All-weaker (λ (o : Begun). o.mark ≤ counter) (Before new) (λ o h _. omega arith) finished t.done_marks);
    open_inside = All-push (λ (o : Begun). o.write.place < n) open_writes new t.open_inside l;
    inside = t.inside;
    once = t.once;
    room = omega (arith, room, room_begin n open_writes collected new);
  }
    where
      new : Begun
      new = record { mark = suc counter; write = w }

  pub table_withdraw : (ticket : ℕ) → Table n (without ticket open_writes) finished collected counter
  table_withdraw ticket = record {
    open_marks = all_without (λ (o : Begun). o.mark ≤ counter) ticket open_writes t.open_marks;
    done_marks = t.done_marks;
    apart = apart_without ticket open_writes t.apart;
    later = all_without (λ (o : Begun). AllByRecursion (Before o) finished) ticket open_writes t.later;
    open_inside = all_without (λ (o : Begun). o.write.place < n) ticket open_writes t.open_inside;
    inside = t.inside;
    once = t.once;
    room = omega (arith, t.room, room_without n open_writes collected ticket);
  }

  pub table_seal : Table n open_writes finished [] counter
  table_seal = record {
    open_marks = t.open_marks;
    done_marks = t.done_marks;
    apart = t.apart;
    later = t.later;
    open_inside = t.open_inside;
    inside = refl;
    once = refl;
    room = omega (arith, t.room, room_seal n open_writes collected);
  }

  pub table_finish : (ticket : ℕ) (o : Begun) → find ticket open_writes ≡ some o →
      Table n (without ticket open_writes) (o ∷ finished) (collect o.write collected) (suc counter)
  table_finish ticket o e = record {
    open_marks = All-weaker (λ (x : Begun). x.mark ≤ counter) (λ (x : Begun). x.mark ≤ suc counter) (λ x h. omega arith) (without ticket open_writes)
        (all_without (λ (x : Begun). x.mark ≤ counter) ticket open_writes t.open_marks);
    done_marks = (
      omega (arith, find_in (λ (x : Begun). x.mark ≤ counter) ticket open_writes o e t.open_marks),
      All-weaker (λ (x : Begun). x.mark ≤ counter) (λ (x : Begun). x.mark ≤ suc counter) (λ x h. omega arith) finished t.done_marks,
    );
    apart = apart_without ticket open_writes t.apart;
    later = both (without ticket open_writes) (apart_found ticket open_writes o e t.apart) (all_without (λ (x : Begun). AllByRecursion (Before x) finished) ticket open_writes t.later);
    open_inside = all_without (λ (x : Begun). x.write.place < n) ticket open_writes t.open_inside;
    inside = below_collect n o.write collected (find_in (λ (x : Begun). x.write.place < n) ticket open_writes o e t.open_inside) t.inside;
    once = once_collect o.write collected t.once;
    room = omega (arith, t.room, room_finish n open_writes collected ticket o e);
  }
    where
      both : (xs : List Begun) → AllByRecursion (Elsewhere o) xs → AllByRecursion (λ (x : Begun). AllByRecursion (Before x) finished) xs → AllByRecursion (λ (x : Begun). AllByRecursion (Before x) (o ∷ finished)) xs
      both [] a b = tt
      both (x ∷ xs) a b = (((λ f. absurd (a.0 (sym f))), b.0), both xs a.1 b.1)

  -- a finished write is laid last
  pub shown_finish : (opening base : List Block) (ticket : ℕ) (o : Begun) → find ticket open_writes ≡ some o →
      lay base collected ≡ laid opening finished → lay base (collect o.write collected) ≡ laid opening (o ∷ finished)
  shown_finish opening base ticket o e r =
      lay_collect o.write collected base t.once
      ∙ ap (λ z. set z o.write.place o.write.bytes) r
      ∙ sym (laid_more opening o finished (find_in (λ (x : Begun). AllByRecursion (Before x) finished) ticket open_writes o e t.later))
