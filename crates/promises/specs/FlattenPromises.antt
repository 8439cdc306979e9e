-- Demand 3, first half, for the entry flatten, as statements about its definition: "Every accepted proof flattens to a flat derivation that is right in the same table
-- (roots, open leaves in order, uses one for one, labels irrelevant)".
use Rattle.std.specs.Prelude.{ℕ, ◌+◌, ◌*◌, ◌≤◌, ◌≡◌, List, [], ◌∷◌, length}
use Rattle.format.specs.declared.values.RuleName.{RuleName}
use Rattle.format.specs.declared.values.Goal.{Goal}
use Rattle.format.specs.Encoding.{Bytes}
use Rattle.format.specs.Results.{gives}
use Rattle.format.specs.Terms.{fields}
use Rattle.tables.specs.Tables.{HasRule}
use Rattle.files.specs.Proofs.{Proof, read_proof, proof_bytes}
use Rattle.files.specs.Derivations.{Derivation, read_flat, flat_bytes}
use Rattle.hitac.specs.Counts.{uses, this_use, taken}
use Rattle.hitac.specs.Flattens.{Flattens}
use Rattle.hitac.specs.Forest.{Tree, entries, leaves}
use Rattle.hitac.specs.Hiproofs.{drop_labels}
use Rattle.entries.specs.Check.{check_work, flatten_work, check, flatten}
use Rattle.promises.specs.Accepted.{Accepted}
use Rattle.promises.specs.Right.{Right}
use Rattle.promises.specs.Ended.{InOther, EndsWritten}
use Rattle.promises.specs.CheckPromises.{CheckRefuses}
use Rattle.promises.specs.WriteProofPromises.{wrote}

-- "Written with the stated goals as roots, then depth first, left first."
abbrev pub derivation_of : Proof → List Tree → Derivation
derivation_of x trees = record { roots = x.goals; entries = entries trees }

-- the same proof without its labels
abbrev pub plain : Proof → Proof
plain x = record { goals = x.goals; term = drop_labels x.term; remaining = x.remaining }

-- its file; one of no bytes has no label to drop, and stays as it is
unfoldable pub plain_file : (file : List ℕ) → Proof → List ℕ
plain_file [] x = []
plain_file (b ∷ s) x = proof_bytes (plain x)

-- the derivation that is written for an accepted proof
pub record FlattensRight (t p : List ℕ) (a : Accepted t p) : Type 0 where
  pub trees : List Tree
  pub by_rules : Flattens (HasRule a.the_table) a.the_proof.term a.the_proof.goals trees a.the_proof.remaining
  pub writes : (w o : List ℕ) → flatten_work ≤ length w → length (flat_bytes (derivation_of a.the_proof trees)) ≤ length o
      → flatten t p w o ≡ wrote (flat_bytes (derivation_of a.the_proof trees)) w o
  pub reads_back : read_flat (flat_bytes (derivation_of a.the_proof trees)) ≡ gives (derivation_of a.the_proof trees)
  pub is_right : Right t (flat_bytes (derivation_of a.the_proof trees))
  pub open_leaves : leaves (entries trees) ≡ a.the_proof.remaining
  -- "for every rule name and goal, as many uses carry the two as atomic fields of that name take that goal in the walk"
  pub one_for_one : (b : RuleName) (γ : Goal) → uses (this_use b γ) (entries trees) ≡ taken (this_use b γ) a.the_table a.the_proof.term a.the_proof.goals
  pub plain_reads : read_proof (plain_file p a.the_proof) ≡ gives (plain a.the_proof)
  -- five bytes less for each label, so that a file without labels has as many as before
  pub plain_shorter : length (plain_file p a.the_proof) + fields a.the_proof.term * 5 ≡ length p + fields (plain a.the_proof).term * 5
  pub plain_accepted : Accepted t (plain_file p a.the_proof)
  pub plain_flattens : (w o : List ℕ) → flatten_work ≤ length w → length (flat_bytes (derivation_of a.the_proof trees)) ≤ length o
      → flatten t (plain_file p a.the_proof) w o ≡ wrote (flat_bytes (derivation_of a.the_proof trees)) w o

-- the bytes of the table are needed: a value of a rule's premises is written
abbrev pub Flattens-right : Type 0
Flattens-right = (t p : List ℕ) → Bytes t → Bytes p → (a : Accepted t p) → FlattensRight t p a

-- "Given both, the flattener refuses no accepted proof": any other it refuses as check does, in number, file and place
abbrev pub Flatten-refuses : Type 0
Flatten-refuses = (t p w v o : List ℕ) → check_work ≤ length w → flatten_work ≤ length v → ((check t p w).answer.number ≡ 0 → ⊥) → (flatten t p v o).answer ≡ (check t p w).answer

-- Demand 1: check's refusals, then 26
abbrev pub Flatten-ends : Type 0
Flatten-ends = (t p w o : List ℕ) → EndsWritten t p w o flatten_work (InOther (CheckRefuses p)) (flatten t p w o)
