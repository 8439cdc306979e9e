-- What a reading or a walk comes to: a value, or the cause of the refusal and its place, document 01's "byte offset where the field's tag is or should be".
use Rattle.std.specs.Prelude.{ℕ, Err}
use Rattle.std.specs.Prelude as std
use Rattle.format.specs.Refusals.{Cause}
use Rattle.format.specs.declared.refusals.Refusal.{Refusal}

pub data Result (A : Type 0) : Type 0 where
  gives : A → Result A
  refused : Cause → (place : ℕ) → Result A

-- go on with the value; a refusal stands
unfoldable pub and_then : {A B : Type 0} → Result A → (A → Result B) → Result B
and_then (gives a) next = next a
and_then (refused c p) next = refused c p

-- The answer of a function of the code: of a refusal its cause and place, of a value what the code keeps of it.
unfoldable pub told : {A B : Type 0} → (refusal : Cause → (place : ℕ) → B) → (value : A → B) → Result A → B
told refusal value (gives a) = value a
told refusal value (refused c p) = refusal c p

-- a refusal as the code answers it
abbrev pub refused_at : {B : Type 0} → Cause → (place : ℕ) → std.Result B Refusal
refused_at c p = Err (record { cause = c; place = p })
