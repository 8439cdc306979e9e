-- The promises of P3: a term that is read stands there, and whatever stands has as many headers as term fields.
-- Assumes nothing.
use Prim.Native.Nat.{ℕ, ◌+◌}
use native.Mathlib.Omega.{arith}
use mathlib.Core.Path.{◌≡◌, refl, sym, subst, ap, ◌∙◌}
use mathlib.Core.Logic.{◌↔◌}
use mathlib.Core.List.{List}
use Rattle.format.specs.Terms.{Term, size, fields}
use Rattle.format.specs.Count.{Counted}
use Rattle.format.specs.Standing.{Stands}
use Rattle.format.proofs.CountLaws.{fields-counted, counted-fields}
use Rattle.format.proofs.ReadLaw.{read_gives}
use Rattle.files.specs.Proofs.{term_place, remaining_place, or_empty_proof}
use Rattle.files.proofs.WhatStands.{read_stands}
use Rattle.answers.specs.declared.Answer.{Answer}
use Rattle.promises.specs.CountPromises.{Count-reads, Check-fields}
use Rattle.promises.proofs.CheckPromises.{check-counts}

-- of a term that stands there
exactly : (s : List ℕ) (at end : ℕ) (t : Term) → Stands s at t → end ≡ at + size t → (n : ℕ) → Counted s at end n ↔ (n ≡ fields t)
exactly s at end t st e n = (counted-fields s at end t st e n, λ h. subst (Counted s at end) (sym h) (fields-counted s at end t st e))

pub count_reads : Count-reads
count_reads d s high at end k x top fit e =
    let l = read_gives d s high top at end k fit x e in
    let h = exactly s at x.next x.term l.stands l.next_is in
    record { stands = l.stands; ends = l.next_is; headers = h; read_count = λ n. (λ c. omega (arith, (h n).0 c, l.count_is), λ q. (h n).1 (omega (arith, q, l.count_is))) }

pub check-fields : Check-fields
unfolding remaining_place
check-fields t p w h a n =
    let x = a.the_proof in
    let e = ap (λ (r : Answer). r.fields) (check-counts t p w h a).2 in
    subst (λ (m : ℕ). Counted (or_empty_proof p) (term_place x) (remaining_place x) n ↔ (n ≡ m)) (sym e) (exactly (or_empty_proof p) (term_place x) (remaining_place x) x.term (read_stands p x a.proof_reads).term_stands refl n)
