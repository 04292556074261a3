-- The records of a text, one after another.
use Rattle.std.proofs.Common.{◌≡◌, ◌<◌, ℕ, zero, suc, ◌+◌, ◌⊎◌, inl, inr, Bool, true, false, cond, Bor, List, [], ◌∷◌, ◌++◌, length, Option, Some, None, IsSome, refl, sym, ap, ◌∙◌, arith}
use Rattle.std.proofs.lemmas.Bool.{false≢true}
use Rattle.std.proofs.lemmas.Option.{same_Some}
use Rattle.csv.specs.Machine.{Read, next_record, ends_at_end, is_end, step, fields_after, field_after}
use Rattle.csv.specs.Reading.{AreRecords, Reached, ReadRecord, default_config, source_of, records, records_from, records_next}
use Rattle.csv.specs.declared.parser.State.{State}
use Rattle.csv.specs.declared.parser.State.TheVariants as st
use Rattle.csv.specs.declared.reader.Reader.{Reader}
use Rattle.csv.proofs.ReadFacts.{rows-end, rows-more}
use Rattle.csv_records.specs.Left.{ReturnsRecords, bytes_left, records_after, records_left}

none_some : {A : Type 0} (x : A) (o : Option A) → o ≡ None → o ≡ Some x → ⊥
none_some x o a b = cc

-- the record that was read is the first of all that were left
after_one : (s s2 : State) (y z : List ℕ) (f : List (List ℕ)) (rest : List (List (List ℕ))) → AreRecords default_config s y rest → Reached default_config s y (f ∷ []) s2 z
    → (more : List (List (List ℕ))) × (rest ≡ f ∷ more) × AreRecords default_config s2 z more
unfolding Reached
after_one s s2 y z f [] (t, ys, (es, ey), none) (p, some, is, (e1, e2)) =
    absurd (none_some p (next_record default_config s [] [] y) (rw (es, ey) none) some)
after_one s s2 y z f (r ∷ rs) (t, ys, (q, found, rq, reach), none) (p, some, is, (e1, e2)) =
    let same : q ≡ p = same_Some q p (sym found ∙ some) in
    let reached : Reached default_config s2 z rs t ys = rw (← e1, ← e2, ← same) reach in
    (rs, ap (λ x. x ∷ rs) (rq ∙ ap (λ (x : Read). x.0) same ∙ sym is), (t, ys, reached, none))

none_left : (s : State) (y : List ℕ) (rest : List (List (List ℕ))) → AreRecords default_config s y rest → next_record default_config s [] [] y ≡ None → rest ≡ []
unfolding Reached
none_left s y [] h none = refl
none_left s y (r ∷ rs) (t, ys, (q, found, rq, reach), last) none = absurd (none_some q (next_record default_config s [] [] y) none found)

chosen : {A : Type 0} (b : Bool) (x r : A) (o : Option A) → cond b (Some x) o ≡ Some r → (x ≡ r) ⊎ (o ≡ Some r)
chosen true x r o h = inl (same_Some x r h)
chosen false x r o h = inr h

-- a record that is read leaves fewer bytes, or it leaves nothing and no record begins there
shorter : (s : State) (fields : List (List ℕ)) (at xs : List ℕ) (r : Read) → next_record default_config s fields at xs ≡ Some r
    → (length r.2 < length xs) ⊎ ((r.1 ≡ st.StartRecord) × (r.2 ≡ []))
unfolding next_record
shorter s fields at [] r h =
    elim (chosen (ends_at_end s) (fields ++ (at ∷ []), st.StartRecord, []) r None h) [
      | inl last ↦ inr (sym (ap (λ (q : Read). q.1) last), sym (ap (λ (q : Read). q.2) last))
      | inr none ↦ absurd (none_some r None refl none)
    ]
shorter s fields at (c ∷ rest) r h =
    let by = step default_config s c in
    elim (chosen (is_end by.1) (fields_after by.1 fields at, by.0, rest) r (next_record default_config by.0 (fields_after by.1 fields at) (field_after by.1 c at) rest) h) [
      | inl one ↦ let left : rest ≡ r.2 = ap (λ (q : Read). q.2) one in inl (omega (arith, ap length left))
      | inr more ↦
          elim (shorter (step default_config s c).0 (fields_after (step default_config s c).1 fields at) (field_after (step default_config s c).1 c at) rest r more) [
            | inl less ↦ inl (omega (arith, less))
            | inr end ↦ inr end
          ]
    ]

-- any number of reads at the end of a text gives all the records that are left: none
none_at_end : (n : ℕ) → AreRecords default_config st.StartRecord [] (records_from default_config n st.StartRecord [])
unfolding Reached records_from next_record
none_at_end zero = (st.StartRecord, [], (refl, refl), refl)
none_at_end (suc n) = (st.StartRecord, [], (refl, refl), refl)

-- enough reads from a state give all the records
enough_reads : (n : ℕ) (s : State) (xs : List ℕ) → length xs < n → AreRecords default_config s xs (records_from default_config n s xs)
unfolding Reached records_from
enough_reads zero s xs h = absurd (omega arith)
enough_reads (suc n) s xs h = by (next_record default_config s [] [] xs) refl (λ t ys less. enough_reads n t ys less)
  where
    by : (o : Option Read) → next_record default_config s [] [] xs ≡ o → ((t : State) (ys : List ℕ) → length ys < n → AreRecords default_config t ys (records_from default_config n t ys))
        → AreRecords default_config s xs (records_next (records_from default_config n) o)
    by None e more = (s, xs, (refl, refl), e)
    by (Some p) e more =
        let rest : AreRecords default_config p.1 p.2 (records_from default_config n p.1 p.2) =
        elim (shorter s [] [] xs p e) [
          | inl less ↦ more p.1 p.2 (omega (arith, less))
          | inr end ↦ rw (end.0, end.1) (none_at_end n)
        ] in
        (rest.0, rest.1, (p, e, refl, rest.2), rest.3)

-- each text has its records
pub records_are : (xs : List ℕ) → AreRecords default_config st.StartRecord xs (records default_config xs)
records_are xs = enough_reads (length xs + 1) st.StartRecord xs (omega arith)

-- a text has one list of records
pub same_records : (s : State) (y : List ℕ) (rs qs : List (List (List ℕ))) → AreRecords default_config s y rs → AreRecords default_config s y qs → rs ≡ qs
unfolding Reached
same_records s y [] qs (t, ys, (es, ey), none) h = sym (none_left s y qs h (rw (es, ey) none))
same_records s y (r ∷ rs) qs (t, ys, (q, found, is, reach), none) h =
    let next = after_one s (q.1) y (q.2) r qs h (q, found, is, (refl, refl)) in
    ap (λ x. r ∷ x) (same_records (q.1) (q.2) rs (next.0) (t, ys, reach, none) (next.2)) ∙ sym (next.1)

-- one read is followed by n reads of what it leaves
pub one_read : (s : State) (y : List ℕ) (n k : ℕ) → n ≡ suc k → records_from default_config n s y ≡ records_next (records_from default_config k) (next_record default_config s [] [] y)
unfolding records_from
one_read s y n k e = rw e refl

first_read : (s : State) (y : List ℕ) → records_after s (Some y) ≡ records_next (records_from default_config (length y)) (next_record default_config s [] [] y)
first_read s y = one_read s y (length y + 1) (length y) (omega arith)

-- the records after the first of those that are left
after_first : (s : State) (y : List ℕ) (p : Read) → next_record default_config s [] [] y ≡ Some p
    → records_after s (Some y) ≡ p.0 ∷ records_after p.1 (Some p.2)
after_first s y p some =
    let rest : AreRecords default_config p.1 p.2 (records_from default_config (length y) p.1 p.2) =
    elim (shorter s [] [] y p some) [
      | inl less ↦ enough_reads (length y) p.1 p.2 less
      | inr end ↦ rw (end.0, end.1) (none_at_end (length y))
    ] in
    let all : AreRecords default_config p.1 p.2 (records_from default_config (length p.2 + 1) p.1 p.2) = enough_reads (length p.2 + 1) p.1 p.2 (omega arith) in
    first_read s y ∙ ap (records_next (records_from default_config (length y))) some ∙ ap (λ rs. p.0 ∷ rs) (same_records p.1 p.2 _ _ rest all)

after_read : (s t : State) (y z : List ℕ) (f : List (List ℕ)) (p : Read) → next_record default_config s [] [] y ≡ Some p → f ≡ p.0 → p.1 ≡ t → p.2 ≡ z
    → records_after s (Some y) ≡ f ∷ records_after t (Some z)
after_read s t y z f p some is state bytes = rw (is, ← state, ← bytes) (after_first s y p some)

-- a read that found a record took the first of those that were left
pub taken : (a b : Reader (Bor (List ℕ))) (f : List (List ℕ)) → ReturnsRecords a → ReadRecord bytes_left a b true f → records_left false a ≡ f ∷ records_left false b
unfolding Reached
taken a b f gives read = by (source_of bytes_left a) refl gives.source
  where
    by : (o : Option (List ℕ)) → source_of bytes_left a ≡ o → IsSome o → records_left false a ≡ f ∷ records_left false b
    by None source some = absurd (false≢true some)
    by (Some y) source some =
        let m = rows-more bytes_left a b f default_config a.state y y [] gives.config source (refl, refl) read in
        let p = m.2.0 in
        ap (records_after a.state) source ∙ (after_read a.state b.state y m.0 f p m.2.1 m.2.2 m.2.3.0 m.2.3.1 ∙ ap (λ o. f ∷ records_after b.state o) (sym m.1))

-- if a read found no record, none was left
pub ended : (a b : Reader (Bor (List ℕ))) (f : List (List ℕ)) → ReturnsRecords a → ReadRecord bytes_left a b false f → records_left false a ≡ []
ended a b f gives read = by (source_of bytes_left a) refl gives.source
  where
    by : (o : Option (List ℕ)) → source_of bytes_left a ≡ o → IsSome o → records_left false a ≡ []
    by None source some = absurd (false≢true some)
    by (Some y) source some =
        ap (records_after a.state) source ∙ (first_read a.state y ∙ ap (records_next (records_from default_config (length y))) (rows-end bytes_left a b f default_config y gives.config source read))
