-- The two bytes of each tactic number: 0 while nothing is known of the tactic, 1 while its body is walked and if it has no arity, else two more than its arity.
use Rattle.std.specs.Prelude.{ℕ, zero, suc, ◌+◌, ◌*◌, ◌<◌, ◌≡◌, cond, List, [], ◌∷◌, ltb}
use Rattle.std.proofs.Math.Option.{none}
use Rattle.words.specs.Word.{word}
use Rattle.format.specs.Values.{tactic_no}
use Rattle.format.specs.Terms.{size}
use Rattle.tables.specs.Tables.{Definition, Table}
use Rattle.tables.specs.Lookup.{find_body}
use Rattle.arities.specs.Layout.{frames_end}
use Rattle.arities.specs.Arities.{arity_code, arities}
use Rattle.arity_notes.specs.Waits.{Wait, Walked}

abbrev pub cell : List ℕ → (tactic : ℕ) → ℕ
cell w d = word w (frames_end + d * 2)

pub data Cell (T : Table) (w : List ℕ) (k : List Wait) (d : ℕ) : Type 0 where
  unknown : cell w d ≡ 0 → Cell T w k d
  walked : cell w d ≡ 1 → Walked d k → Cell T w k d
  found : cell w d ≡ suc (arity_code (arities T (tactic_no d))) → Cell T w k d

abbrev pub Cells : Table → List ℕ → List Wait → Type 0
Cells T w k = (d : ℕ) → d < 65536 → Cell T w k d

-- every tactic that has a definition is known
abbrev pub AllKnown : Table → List ℕ → Type 0
AllKnown T w = (d : ℕ) → d < 65536 → cell w d ≡ 0 → find_body T (tactic_no d) ≡ none

-- how much there is to walk of the bodies of which nothing is known
unfoldable pub if_unknown : (cell size : ℕ) → ℕ
if_unknown zero n = n
if_unknown (suc c) n = 0

unfoldable pub unwalked : List ℕ → List Definition → ℕ
unwalked w [] = 0
unwalked w (x ∷ xs) = cond (ltb x.tactic.0 65536) (if_unknown (cell w x.tactic.0) (size x.body)) 0 + unwalked w xs
