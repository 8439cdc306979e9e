-- What is chosen by the part and by the mode, where only a test of them is known: by their cases.
-- Assumes nothing.
use mathlib.Core.Path.{◌≡◌, refl}
use mathlib.Core.Bool.{true, false}
use Rattle.std.specs.Prelude.{ℕ, List}
use Rattle.format.specs.Tags.{tactic_kind}
use Rattle.parts.specs.declared.state.Mode.{Mode}
use Rattle.parts.specs.declared.state.Mode.TheVariants.{Refused, Reads, Gave}
use Rattle.parts.specs.declared.state.Part.{Part}
use Rattle.parts.specs.declared.state.Part.TheVariants.{Roots, Entries, Fields, JobGoals, ProofGoals, Remaining, Body, JobTerm, ProofTerm, Other}
use Rattle.parts.specs.declared.state.State.{State}
use Rattle.parts.specs.States.{by_part, is_term, is_list, high_of, behind_hiproof, behind_part}

pub list_chosen : {A : Type 0} (p : Part) (e f l t : A) → is_list p ≡ true → by_part p e f l t ≡ l
list_chosen Roots e f l t h = refl
list_chosen Entries e f l t h = cc
list_chosen Fields e f l t h = cc
list_chosen JobGoals e f l t h = refl
list_chosen ProofGoals e f l t h = refl
list_chosen Remaining e f l t h = refl
list_chosen Body e f l t h = cc
list_chosen JobTerm e f l t h = cc
list_chosen ProofTerm e f l t h = cc
list_chosen (Other n) e f l t h = cc

pub term_chosen : {A : Type 0} (p : Part) (e f l t : A) → is_term p ≡ true → by_part p e f l t ≡ t
term_chosen Roots e f l t h = cc
term_chosen Entries e f l t h = cc
term_chosen Fields e f l t h = cc
term_chosen JobGoals e f l t h = cc
term_chosen ProofGoals e f l t h = cc
term_chosen Remaining e f l t h = cc
term_chosen Body e f l t h = refl
term_chosen JobTerm e f l t h = refl
term_chosen ProofTerm e f l t h = refl
term_chosen (Other n) e f l t h = refl

-- a part that is none of the others is a goal list
pub else_list : (p : Part) → is_term p ≡ false → (p ≡ Fields → ⊥) → (p ≡ Entries → ⊥) → is_list p ≡ true
else_list Roots t f e = refl
else_list Entries t f e = absurd (e refl)
else_list Fields t f e = absurd (f refl)
else_list JobGoals t f e = refl
else_list ProofGoals t f e = refl
else_list Remaining t f e = refl
else_list Body t f e = cc
else_list JobTerm t f e = cc
else_list ProofTerm t f e = cc
else_list (Other n) t f e = cc

-- what the number of no part names is read as a term, in which fields of tactics may stand, and behind it comes what follows a hiproof
pub other_part : (n : ℕ) → (is_term (Other n) ≡ true) × (high_of (Other n) ≡ tactic_kind) × ((s : List ℕ) (x : State) → behind_part s x (Other n) ≡ behind_hiproof s x)
unfolding high_of behind_part
other_part n = (refl, refl, λ s x. refl)

-- by these a choice is made where the part was tested
pub ruleset by_parts = (term_chosen, list_chosen, else_list)

-- a list is no term
pub list_outside : (p : Part) → is_list p ≡ true → is_term p ≡ false
list_outside p h = list_chosen p _ _ _ _ h

-- a mode that is neither of two
pub else_refused : (m : Mode) → (m ≡ Reads → ⊥) → (m ≡ Gave → ⊥) → m ≡ Refused
else_refused Refused r g = refl
else_refused Reads r g = absurd (r refl)
else_refused Gave r g = absurd (g refl)

-- a mode that is neither a refusal nor reads
pub else_gave : (m : Mode) → (m ≡ Refused → ⊥) → (m ≡ Reads → ⊥) → m ≡ Gave
else_gave Refused r g = absurd (r refl)
else_gave Reads r g = absurd (g refl)
else_gave Gave r g = refl
