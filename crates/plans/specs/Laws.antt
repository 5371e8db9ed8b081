-- What ties plans, clauses and measures together.
use Rattle.std.specs.Prelude.{◌≡◌, ℕ, ◌*◌, List, [], length, None, sum_by}
use Rattle.sat.specs.Formula.{encode}
use Rattle.sat.specs.Question.{Models}
use Rattle.board.specs.Held.{Held}
use Rattle.board.specs.Measure.{measured}
use Rattle.board.specs.Rows.{row_of}
use Rattle.plans.specs.Clauses.{clauses, valuation_of}
use Rattle.plans.specs.Nets.{lock_of, nets_of}
use Rattle.plans.specs.Plans.{Earliest, Fits, Legal, Row}

-- a valuation satisfies the board's formula, with nothing assumed
abbrev pub Satisfies : Held → List ℕ → Type 0
Satisfies held values = Models (length (nets_of held.rows) * held.fpics) (encode (clauses held)) [] values

-- the plans that fit the rack are the valuations that satisfy its formula, one to one
pub record Faithful (held : Held) : Type 0 where
  pub plan_satisfies : (plan : List Row) → Fits held plan → Satisfies held (valuation_of held.fpics plan)
  pub valuation_plans : (values : List ℕ) → Satisfies held values → (plan : List Row) × Fits held plan × (valuation_of held.fpics plan ≡ values)
  pub one_plan : (plan other : List Row) → Fits held plan → Fits held other → valuation_of held.fpics plan ≡ valuation_of held.fpics other → plan ≡ other

-- no held net has a lock
abbrev pub Unlocked : Held → Type 0
Unlocked held = (number : ℕ) → lock_of (row_of held.rows number) ≡ None

-- of a board without locks, these are its legal plans
pub record FaithfulUnlocked (held : Held) : Type 0 where
  pub plan_satisfies : (plan : List Row) → Legal held plan → Satisfies held (valuation_of held.fpics plan)
  pub valuation_plans : (values : List ℕ) → Satisfies held values → (plan : List Row) × Legal held plan × (valuation_of held.fpics plan ≡ values)
  pub one_plan : (plan other : List Row) → Legal held plan → Legal held other → valuation_of held.fpics plan ≡ valuation_of held.fpics other → plan ≡ other

-- the measure counts the clause list
pub record Counted (held : Held) : Type 0 where
  pub variable_count : (measured held).variables ≡ length (nets_of held.rows) * held.fpics
  pub clause_count : (measured held).clauses ≡ length (clauses held)
  pub literal_count : (measured held).literals ≡ sum_by length (clauses held)

-- an earliest legal plan is the only one, and there is one wherever there is a legal plan
pub record EarliestStands (held : Held) : Type 0 where
  pub only : (p q : List Row) → Earliest held p → Earliest held q → p ≡ q
  pub found : (p : List Row) → Legal held p → (q : List Row) × Earliest held q

-- the laws of every board
pub record BoardLaws (held : Held) : Type 0 where
  pub faithful : Faithful held
  pub unlocked : Unlocked held → FaithfulUnlocked held
  pub counted : Counted held
  pub earliest : EarliestStands held
