-- The sizes of files: a term field has at most five bytes, a goal list three and two for each goal, a use seven, an open five; so 65,535 bytes are no extra limit for what is within the others.
-- Assumes nothing.
use mathlib.Core.Path.{◌≡◌}
use mathlib.Core.List.{List, ◌++◌}
use Prim.Native.Nat.{ℕ, ◌+◌, ◌*◌, ◌≤◌}
use native.Mathlib.Omega.{arith}
use lib.ListN.{length, length-append}
use Rattle.format.specs.Results.{gives}
use Rattle.format.specs.Terms.{Term, atomic, id, label, sequence, tensor, empty, alternation, assert, defined, size, fields}
use Rattle.format.specs.Encoding.{term_bytes, goal_list_bytes}
use Rattle.format.proofs.Encoded.{length-term_bytes}
use Rattle.files.specs.Proofs.{Proof, read_proof_fields, proof_bytes, term_place, remaining_place}
use Rattle.files.specs.Jobs.{Job, read_job, job_bytes}
use Rattle.files.specs.Derivations.{Derivation, read_flat, entries_bytes, flat_bytes, entries_place}
use Rattle.files.specs.Counts.{job_term_place, uses_in, opens_in}
use Rattle.files.specs.Within.{ProofWithin, JobWithin, FlatWithin}
use Rattle.files.proofs.EntryBytes.{length-entries_bytes, entries_end}
use Rattle.files.proofs.Files.{length-goal_list_bytes}
use Rattle.files.proofs.WhatStands.{proof_stands, job_stands, flat_stands}

pub size_most : (t : Term) → size t ≤ fields t * 5
unfolding size fields
size_most (atomic a) = omega arith
size_most id = omega arith
size_most (label l t) = omega (arith, size_most t)
size_most (sequence t u) = omega (arith, size_most t, size_most u)
size_most (tensor t u) = omega (arith, size_most t, size_most u)
size_most empty = omega arith
size_most (alternation t u) = omega (arith, size_most t, size_most u)
size_most (assert γ) = omega arith
size_most (defined n) = omega arith

pub length-proof_bytes : (p : Proof) → length (proof_bytes p) ≡ remaining_place p + 3 + length p.remaining * 2
unfolding proof_bytes remaining_place term_place
length-proof_bytes p =
    let g = goal_list_bytes p.goals in
    let t = term_bytes p.term in
    let r = goal_list_bytes p.remaining in
    omega (arith, length-append (g ++ t) r, length-append g t, length-goal_list_bytes p.goals, length-term_bytes p.term, length-goal_list_bytes p.remaining)

pub length-job_bytes : (j : Job) → length (job_bytes j) ≡ job_term_place j + size j.term
unfolding job_bytes job_term_place
length-job_bytes j = omega (arith, length-append (goal_list_bytes j.goals) (term_bytes j.term), length-goal_list_bytes j.goals, length-term_bytes j.term)

pub length-flat_bytes : (d : Derivation) → length (flat_bytes d) ≡ entries_place d + uses_in d.entries * 7 + opens_in d.entries * 5
unfolding flat_bytes entries_place
length-flat_bytes d = omega (arith, length-append (goal_list_bytes d.roots) (entries_bytes d.entries), length-goal_list_bytes d.roots, length-entries_bytes d.entries)

-- of what is within the limits
pub proof_most : (p : Proof) → ProofWithin p → length (proof_bytes p) ≤ 21510
unfolding remaining_place term_place
proof_most p w = omega (arith, length-proof_bytes p, size_most p.term, w.few_goals, w.few_fields, w.few_remaining)

pub job_most : (j : Job) → JobWithin j → length (job_bytes j) ≤ 20995
unfolding job_term_place
job_most j w = omega (arith, length-job_bytes j, size_most j.term, w.few_goals, w.few_fields)

pub flat_most : (d : Derivation) → FlatWithin d → length (flat_bytes d) ≤ 30467
unfolding entries_place
flat_most d w = omega (arith, length-flat_bytes d, w.few_roots, w.few_uses, w.few_opens)

-- of a file that reads
pub proof_size_lem : (s : List ℕ) (p : Proof) → read_proof_fields s ≡ gives p → length s ≤ 21510
unfolding remaining_place term_place
proof_size_lem s p e =
    let st = proof_stands s p e in
    omega (arith, st.end_is, size_most p.term, st.goals_stand.few, st.few_fields, st.remaining_stand.few)

pub job_size : (s : List ℕ) (j : Job) → read_job s ≡ gives j → length s ≤ 20995
unfolding job_term_place
job_size s j e =
    let st = job_stands s j e in
    omega (arith, st.end_is, size_most j.term, st.goals_stand.few, st.few_fields)

pub flat_size : (s : List ℕ) (d : Derivation) → read_flat s ≡ gives d → length s ≤ 30467
unfolding entries_place
flat_size s d e =
    let st = flat_stands s d e in
    omega (arith, entries_end s d.entries (entries_place d) (length s) st.entries_stand, st.roots_stand.few, st.few_uses, st.few_opens)
