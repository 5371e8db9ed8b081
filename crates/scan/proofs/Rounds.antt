-- The first telling clause: step by step, and what it says of them all.
use Rattle.std.proofs.Common.{◌≡◌, ℕ, ◌+◌, List, [], ◌∷◌, ◌++◌, length, take, drop, ℤ, Some, None, Option, sym, refl, ap, ◌∙◌, subst, arith}
use Rattle.std.proofs.lemmas.List.{drop-drop}
use Rattle.std.proofs.ByRecursion.{All-append, has_get_or, has_append_left, has_append_right}
use Rattle.sat.specs.Formula.{clauses_of}
use Rattle.scan.specs.Clauses.{judged, reading}
use Rattle.scan.specs.Rounds.{tells, or_later, first_telling, start_of, round, Finds}
use Rattle.scan.specs.declared.value.Value.{Value}
use Rattle.scan.specs.declared.clause.Standing.{Standing}
use Rattle.scan.specs.declared.clause.Standing.TheVariants.{Undecided, Satisfied, AllFalse, Forcing}
use Rattle.scan.specs.declared.clause.Reading.{Reading}
use Rattle.scan.specs.declared.round.Telling.{Telling}
use Rattle.scan.specs.declared.round.Telling.TheVariants.{Conflict, Forced}
use Rattle.scan.specs.declared.round.Round.{Round}
use Rattle.scan.proofs.Boundaries.{Behind, behind, clauses_cut}

module _ (values : List Value) (numbers : List ℤ) (place : ℕ) where
  -- a clause was read at a place: the telling one is it or a later one
  read_in : (clauses : List (List ℤ)) → clauses_of (drop place numbers) ≡ clauses → Behind (drop place numbers) clauses → (r : Reading) → Some r ≡ reading values place clauses →
      first_telling values place (clauses_of (drop place numbers)) ≡ or_later (tells r.standing) r.next (first_telling values r.next (clauses_of (drop r.next numbers)))
  read_in [] e b r s = cc
  read_in (clause ∷ clauses) e b r s =
      let next : r.next ≡ place + length clause + 1 = cc in
      let standing : r.standing ≡ judged values clause = cc in
      let d : clauses_of (drop r.next numbers) ≡ clauses =
      ap (λ n. clauses_of (drop n numbers)) (next ∙ omega arith) ∙ sym (ap clauses_of (drop-drop (length clause + 1) place numbers)) ∙ b in
      rw (e, d, standing, next) refl

  -- the round goes on
  pub step_over : (r : Reading) → Some r ≡ reading values place (clauses_of (drop place numbers)) → tells r.standing ≡ None →
      first_telling values r.next (clauses_of (drop r.next numbers)) ≡ first_telling values place (clauses_of (drop place numbers))
  step_over r s e =
      sym (read_in (clauses_of (drop place numbers)) refl (behind (drop place numbers)) r s ∙ ap (λ t. or_later t r.next (first_telling values r.next (clauses_of (drop r.next numbers)))) e)

module _ (values : List Value) where
  finds_over : (clause : List ℤ) (clauses : List (List ℤ)) (t : Option Telling) → tells (judged values clause) ≡ None → Finds values clauses t → Finds values (clause ∷ clauses) t
  finds_over clause clauses None e h = (e, h)
  finds_over clause clauses (Some Conflict) e h = (h.0, has_append_right (clause ∷ []) clauses h.0 h.1, h.2)
  finds_over clause clauses (Some (Forced z)) e h = (h.0, has_append_right (clause ∷ []) clauses h.0 h.1, h.2)

  finds_more : (clause : List ℤ) (clauses : List (List ℤ)) (n : ℕ) (later : Round) (s : Standing) → judged values clause ≡ s → Finds values clauses later.found →
      Finds values (clause ∷ clauses) (or_later (tells s) n later).found
  finds_more clause clauses n later Undecided e h = finds_over clause clauses later.found (ap tells e) h
  finds_more clause clauses n later Satisfied e h = finds_over clause clauses later.found (ap tells e) h
  finds_more clause clauses n later AllFalse e h = (clause, has_get_or (clause ∷ clauses) 0 clause (omega arith), e)
  finds_more clause clauses n later (Forcing z) e h = (clause, has_get_or (clause ∷ clauses) 0 clause (omega arith), e)

  first_finds : (place : ℕ) (clauses : List (List ℤ)) → Finds values clauses (first_telling values place clauses).found
  first_finds place [] = tt
  first_finds place (clause ∷ clauses) =
      finds_more clause clauses (place + length clause + 1) (first_telling values (place + length clause + 1) clauses) (judged values clause) refl (first_finds (place + length clause + 1) clauses)

  finds_front : (a b : List (List ℤ)) (t : Option Telling) → Finds values b None → Finds values a t → Finds values (a ++ b) t
  finds_front a b None h k = All-append (λ clause. tells (judged values clause) ≡ None) a b k h
  finds_front a b (Some Conflict) h k = (k.0, has_append_left a b k.0 k.1, k.2)
  finds_front a b (Some (Forced z)) h k = (k.0, has_append_left a b k.0 k.1, k.2)

  finds_both : (a b : List (List ℤ)) (n : ℕ) (later : Round) (t : Option Telling) → Finds values b t → Finds values a later.found → Finds values (a ++ b) (or_later t n later).found
  finds_both a b n later None h k = finds_front a b later.found h k
  finds_both a b n later (Some Conflict) h k = (h.0, has_append_right a b h.0 h.1, h.2)
  finds_both a b n later (Some (Forced z)) h k = (h.0, has_append_right a b h.0 h.1, h.2)

  -- a round tells the truth of all clauses
  round_finds : (formula : List ℤ) (proposed : ℕ) → Finds values (clauses_of formula) (round values formula proposed).found
  round_finds formula proposed =
      let s : ℕ = start_of formula proposed in
      subst (λ (l : List (List ℤ)). Finds values l (round values formula proposed).found) (sym (clauses_cut formula proposed))
      (finds_both (clauses_of (take s formula)) (clauses_of (drop s formula)) (first_telling values s (clauses_of (drop s formula))).next (first_telling values 0 (clauses_of (take s formula)))
      (first_telling values s (clauses_of (drop s formula))).found (first_finds s (clauses_of (drop s formula))) (first_finds 0 (clauses_of (take s formula))))

  pub round-tells : (formula : List ℤ) (proposed : ℕ) (r : Round) → r ≡ round values formula proposed → Finds values (clauses_of formula) r.found
  round-tells formula proposed r e = subst (λ (q : Round). Finds values (clauses_of formula) q.found) (sym e) (round_finds formula proposed)
