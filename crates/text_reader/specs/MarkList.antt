-- How the code keeps the marks of a text in the work space: three bytes for each, its number here and, where it has one, its value.
use Rattle.std.specs.Prelude.{ℕ, ◌+◌, ◌*◌, ◌<◌, ◌≡◌, List, get_or}
use Rattle.words.specs.Word.{word}
use Rattle.notation.specs.Marks.{semicolon, bar, star, rule_leaf, id_leaf, empty_leaf, goal_leaf, tactic_leaf, Mark, leaf, label_mark, sign, opening, closing}

-- a mark that makes a field has the tag of that field; brackets have numbers that are no tags
unfoldable pub MarkStands : List ℕ → (at : ℕ) → Mark → Type 0
MarkStands w at (leaf (rule_leaf n)) = (get_or w at 0 ≡ 16) × (word w (at + 1) ≡ n)
MarkStands w at (leaf id_leaf) = get_or w at 0 ≡ 17
MarkStands w at (label_mark n) = (get_or w at 0 ≡ 18) × (word w (at + 1) ≡ n)
MarkStands w at (sign semicolon) = get_or w at 0 ≡ 19
MarkStands w at (sign star) = get_or w at 0 ≡ 20
MarkStands w at (leaf empty_leaf) = get_or w at 0 ≡ 21
MarkStands w at (sign bar) = get_or w at 0 ≡ 22
MarkStands w at (leaf (goal_leaf n)) = (get_or w at 0 ≡ 23) × (word w (at + 1) ≡ n)
MarkStands w at (leaf (tactic_leaf n)) = (get_or w at 0 ≡ 24) × (word w (at + 1) ≡ n)
MarkStands w at opening = get_or w at 0 ≡ 1
MarkStands w at closing = get_or w at 0 ≡ 0

-- the first so many marks of a list stand one behind the other, from the first byte on
abbrev pub MarksStand : List ℕ → List Mark → (count : ℕ) → Type 0
MarksStand w ms count = (i : ℕ) → i < count → MarkStands w (3 * i) (get_or ms i closing)
