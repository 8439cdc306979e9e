-- Document 01, "Flat derivations": the forest of a hiproof on its goals.
use Rattle.std.proofs.Math.Option.{Option, none, some}
use Rattle.std.specs.Prelude.{List, [], ◌∷◌, ◌++◌, map, length, take, drop}
use Rattle.format.specs.declared.values.RuleName.{RuleName}
use Rattle.format.specs.declared.values.Goal.{Goal}
use Rattle.format.specs.Terms.{Term, atomic, id, label, sequence, tensor, empty, alternation, assert, defined}
use Rattle.tables.specs.Tables.{Table}
use Rattle.tables.specs.Lookup.{FoundRule, find_rule}
use Rattle.files.specs.Derivations.{Entry, use_entry, open_entry}
use Rattle.hitac.specs.Hiproofs.{input_arity}

-- "depth first, left first. Entries are the use and open fields": a tree is the list of its entries in this order.
-- A forest has one such list for each tree.
abbrev pub Tree : Type 0
Tree = List Entry

-- "Written .. depth first, left first": the entries of a forest, tree by tree
abbrev pub entries : List Tree → List Entry
entries [] = []
entries (t ∷ f) = t ++ entries f

-- "the open fields in file order are the open leaves from left to right": their goals
abbrev pub leaves : List Entry → List Goal
leaves [] = []
leaves (use_entry a γ ∷ es) = leaves es
leaves (open_entry γ ∷ es) = γ ∷ leaves es

-- "puts the right forest's trees for the left's open leaves in order": in the entries of one tree or of several
abbrev pub substitute : List Entry → List Tree → List Entry
substitute [] ts = []
substitute (use_entry a γ ∷ es) ts = use_entry a γ ∷ substitute es ts
substitute (open_entry γ ∷ es) [] = open_entry γ ∷ substitute es []
substitute (open_entry γ ∷ es) (t ∷ ts) = t ++ substitute es ts

-- the same in a forest: each tree takes as many of the trees as it has open leaves, and leaves the others to the next
abbrev pub substitute_forest : List Tree → List Tree → List Tree
substitute_forest [] ts = []
substitute_forest (t ∷ f) ts = substitute t ts ∷ substitute_forest f (drop (length (leaves t)) ts)

-- the premises of a rule that was looked up; none where there is no such rule
abbrev pub premises_in : Option FoundRule → List Goal
premises_in none = []
premises_in (some r) = r.premises

-- "a use whose premises": those of the rule of that name for that goal
abbrev pub premises_of : Table → RuleName → Goal → List Goal
premises_of T a γ = premises_in (find_rule T a γ)

-- "The forest of a hiproof on its goals: id is an open leaf; atomic is a use whose premises are open leaves; label is the inner forest;
-- a sequence puts the right forest's trees for the left's open leaves in order; a tensor joins; empty is no tree."
-- The last three forms stand in no hiproof.
unfoldable pub forest : Table → Term → List Goal → List Tree
forest T (atomic a) g = map (λ γ. use_entry a γ ∷ map open_entry (premises_of T a γ)) g
forest T id g = map (λ γ. open_entry γ ∷ []) g
forest T (label l s) g = forest T s g
forest T (sequence s t) g = substitute_forest (forest T s g) (forest T t (leaves (entries (forest T s g))))
forest T (tensor s t) g = forest T s (take (input_arity s) g) ++ forest T t (drop (input_arity s) g)
forest T empty g = []
forest T (alternation s t) g = []
forest T (assert γ) g = []
forest T (defined n) g = []
