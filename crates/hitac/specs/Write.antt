-- Document 01, "Flat derivations", "Writing a proof": the term that is written from the entries of a flat derivation.
use Rattle.std.specs.Prelude.{ℕ, List, [], ◌∷◌, length, take, drop}
use Rattle.format.specs.declared.values.RuleName.{RuleName}
use Rattle.format.specs.Terms.{Term, atomic, id, sequence, tensor, empty}
use Rattle.tables.specs.Tables.{Table}
use Rattle.files.specs.Derivations.{Entry, use_entry, open_entry}
use Rattle.hitac.specs.Forest.{premises_of}

-- "no trees is empty, one is itself, more is a tensor of the first and the others"
abbrev pub forest_term : List Term → Term
forest_term [] = empty
forest_term (t ∷ []) = t
forest_term (t ∷ u ∷ ts) = tensor t (forest_term (u ∷ ts))

-- "a use without premises is atomic; with premises it is a sequence of atomic and the forest"
abbrev pub use_term : RuleName → List Term → Term
use_term a [] = atomic a
use_term a (t ∷ ts) = sequence (atomic a) (forest_term (t ∷ ts))

-- "a tree is written through its forest of premises": a use with n premises takes the first n of the trees behind it
abbrev pub use_and_others : RuleName → ℕ → List Term → List Term
use_and_others a n ts = use_term a (take n ts) ∷ drop n ts

-- "Open is id": the terms of the trees that the entries are, one behind the other
unfoldable pub tree_terms : Table → List Entry → List Term
tree_terms T [] = []
tree_terms T (open_entry γ ∷ es) = id ∷ tree_terms T es
tree_terms T (use_entry a γ ∷ es) = use_and_others a (length (premises_of T a γ)) (tree_terms T es)

-- "the term is the whole forest"
unfoldable pub written : Table → List Entry → Term
written T es = forest_term (tree_terms T es)
