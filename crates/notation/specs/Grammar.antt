-- P8: "Tensor binds tightest, then alternation, then sequence; a chain of the same sign groups to the right; a label reaches as far right as its bracket allows."
use Rattle.std.specs.Prelude.{ℕ, List, [], ◌∷◌, ◌++◌}
use Rattle.format.specs.Terms.{Term, sequence, tensor, alternation}
use Rattle.notation.specs.Marks.{semicolon, bar, star, Leaf, Mark, leaf, label_mark, sign, opening, closing, leaf_term, label_term, Spelled}

-- what a list of marks is read as: a chain of sequences, of alternations, of tensors, or one operand
pub data Level : Type 0 where
  sequences : Level
  alternations : Level
  tensors : Level
  operand : Level

-- Marks that end in a label are open: whatever follows belongs to the label. Brackets close them.
pub data End : Type 0 where
  closed : End
  opened : End

-- One constructor for each production. What stands left of a sign is closed.
pub data Reads : Level → End → List Mark → Term → Type 0 where
  one_leaf : (w : Leaf) → Reads operand closed (leaf w ∷ []) (leaf_term w)
  brackets : {e : End} {ms : List Mark} {t : Term} → Reads sequences e ms t → Reads operand closed (opening ∷ (ms ++ (closing ∷ []))) t
  labelled : (n : ℕ) {e : End} {ms : List Mark} {t : Term} → Reads sequences e ms t → Reads operand opened (label_mark n ∷ ms) (label_term n t)
  one_operand : {e : End} {ms : List Mark} {t : Term} → Reads operand e ms t → Reads tensors e ms t
  with_star : {e : End} {ms ns : List Mark} {t u : Term} → Reads operand closed ms t → Reads tensors e ns u → Reads tensors e (ms ++ (sign star ∷ ns)) (tensor t u)
  one_tensor : {e : End} {ms : List Mark} {t : Term} → Reads tensors e ms t → Reads alternations e ms t
  with_bar : {e : End} {ms ns : List Mark} {t u : Term} → Reads tensors closed ms t → Reads alternations e ns u → Reads alternations e (ms ++ (sign bar ∷ ns)) (alternation t u)
  one_alternation : {e : End} {ms : List Mark} {t : Term} → Reads alternations e ms t → Reads sequences e ms t
  with_semicolon : {e : End} {ms ns : List Mark} {t u : Term} → Reads alternations closed ms t → Reads sequences e ns u → Reads sequences e (ms ++ (sign semicolon ∷ ns)) (sequence t u)

-- the text reads as the term
pub record ReadsAs (text : List ℕ) (t : Term) : Type 0 where
  pub marks : List Mark
  pub end : End
  pub spelled : Spelled text marks
  pub read : Reads sequences end marks t
