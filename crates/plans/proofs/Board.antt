-- The laws of every board: its formula is faithful and counted, and an earliest legal plan stands wherever there is a legal one.
use Rattle.std.proofs.Common.{◌≡◌, ℕ, List, map, Some, sym, ◌∙◌, ⊎_elim}
use Rattle.board.specs.Held.{Held}
use Rattle.board.specs.Laws.{Lawful}
use Rattle.board.specs.Rows.{row_of}
use Rattle.plans.specs.Laws.{BoardLaws, FaithfulUnlocked, Unlocked}
use Rattle.plans.specs.Nets.{lock_of, numbers_from}
use Rattle.plans.specs.Plans.{Earlier, Earliest, Fits, Legal, Row}
use Rattle.plans.proofs.Counted.{counted}
use Rattle.plans.proofs.Elements.{all_of}
use Rattle.plans.proofs.Faithful.{faithful}
use Rattle.plans.proofs.Legality.{legal_decided}
use Rattle.plans.proofs.Order.{Least, earlier_asym, earlier_cases, earlier_irrefl, least}

-- without locks a plan that fits is legal
pub legal_unlocked : (held : Held) → Unlocked held → (plan : List Row) → Fits held plan → Legal held plan
legal_unlocked held free plan fits =
    record {
      fits = fits;
      locks = all_of (λ row. (letter : ℕ) → lock_of (row_of held.rows row.number) ≡ Some letter → row.fpic ≡ letter) (λ row letter e. let none = free row.number in cc) plan;
    }

pub faithful_unlocked : (held : Held) → Lawful held → Unlocked held → FaithfulUnlocked held
faithful_unlocked held lawful free =
    let f = faithful held lawful in
    record {
      plan_satisfies = λ plan legal. f.plan_satisfies plan legal.fits;
      valuation_plans = λ values m. let found = f.valuation_plans values m in (found.0, legal_unlocked held free found.0 found.1, found.2);
      one_plan = λ plan other legal legal' e. f.one_plan plan other legal.fits legal'.fits e;
    }

-- two legal plans have the same numbers
same_numbers : (held : Held) (p q : List Row) → Legal held p → Legal held q → map (λ row. row.number) p ≡ map (λ row. row.number) q
same_numbers held p q l m = l.fits.nets ∙ sym m.fits.nets

pub earliest_only : (held : Held) (p q : List Row) → Earliest held p → Earliest held q → p ≡ q
earliest_only held p q e f =
    ⊎_elim
    (λ same. same)
    (⊎_elim
    (λ l. absurd (earlier_asym p q l (f.first p e.legal (λ same. earlier_irrefl q (subst_left same l)))))
    (λ l. absurd (earlier_asym q p l (e.first q f.legal (λ same. earlier_irrefl p (subst_left same l))))))
    (earlier_cases p q (same_numbers held p q e.legal f.legal))
  where
    subst_left : {a b : List Row} → a ≡ b → Earlier a b → Earlier b b
    subst_left {a} {b} same l = rw same at l

pub earliest_found : (held : Held) → Lawful held → (p : List Row) → Legal held p → (q : List Row) × Earliest held q
earliest_found held lawful p legal =
    let numbers = numbers_from 1 held.rows in
    ⊎_elim
    (λ found.
    let l : Least held.fpics numbers (Legal held) found.0 = found.1 in (
      found.0,
      record {
        legal = l.holds;
        first = λ other legal' differ. ⊎_elim (λ same. absurd (differ same)) (λ later. later) (l.first other (legal'.fits.nets, legal'.fits.fpics) legal');
      },
    ))
    (λ nowhere. absurd (nowhere p (legal.fits.nets, legal.fits.fpics) legal))
    (least held.fpics numbers (Legal held) (legal_decided held lawful))

pub board_laws : (held : Held) → Lawful held → BoardLaws held
board_laws held lawful =
    record {
      faithful = faithful held lawful;
      unlocked = faithful_unlocked held lawful;
      counted = counted held;
      earliest = record { only = earliest_only held; found = earliest_found held lawful };
    }
