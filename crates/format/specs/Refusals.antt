-- The causes of a refusal, and their numbers: document 01, "What the bytes bring about" and "What the state brings about"; document 02, P5 (34, 35), P8 (36, 37), P12 (40) and P13 (41, 42).
use Rattle.std.specs.Prelude.{ℕ}
pub use Rattle.format.specs.declared.refusals.Cause.{Cause}
pub use Rattle.format.specs.declared.refusals.Cause.TheVariants.{InputTooLong, FieldTorn, TagNotAllowed, LengthWrong, LimitPassed, RuleRepeated, PremiseCountDiffers, TacticRedefined, LabelRepeated, RuleMissing, RemainingDiffer, JoinedTooLong, TacticFailed, BudgetSpent, BudgetTooLarge, OutputTooShort, EntryWrong, GoalsPending, EntriesTooMany, WorkTooShort, StateNotGenuine, GoalCountWrong, GoalsTooFew, TextWrong, ValueTooLarge, FieldsTooMany, NoEvaluation, HeightOutside}

-- Two causes have the number 27, a flat file that is wrong; every other number has one.
unfoldable pub number : Cause → ℕ
number InputTooLong = 1
number FieldTorn = 2
number TagNotAllowed = 3
number LengthWrong = 4
number LimitPassed = 5
number RuleRepeated = 6
number PremiseCountDiffers = 7
number TacticRedefined = 8
number LabelRepeated = 9
number RuleMissing = 20
number RemainingDiffer = 21
number JoinedTooLong = 22
number TacticFailed = 23
number BudgetSpent = 24
number BudgetTooLarge = 25
number OutputTooShort = 26
number EntryWrong = 27
number GoalsPending = 27
number EntriesTooMany = 28
number WorkTooShort = 29
number StateNotGenuine = 30
number GoalCountWrong = 34
number GoalsTooFew = 35
number TextWrong = 36
number ValueTooLarge = 37
number FieldsTooMany = 40
number NoEvaluation = 41
number HeightOutside = 42
