-- Facts that a test decides: what the policy alone lets a context read, and which grant gives an interaction.
use Rattle.std.proofs.Common.{ℕ, Bool, false, ◌&&◌, ◌||◌, T, eqb, [], ◌∷◌, sym, subst, ⊎_elim, eqb→eq}
use lib.Bits.{bit_and}
use lib.Dec.{eqb_refl}
use Rattle.access.specs.Operations.{has, read_op, read_like}
use Rattle.access.specs.Policy.{Meaning, Interaction}
use Rattle.verdicts.specs.Runs.{Grant, Grants, Standing, here, there}
use Rattle.verdicts.specs.Activities.{ReadsDirectly}
use Rattle.verdicts.specs.Possible.{grant_set, some_op}
use Rattle.verdicts.specs.Verdicts.{Given}
use Rattle.access.proofs.Tests.{both, both_parts, left, right, either_part}
use Rattle.verdicts.proofs.Reduction.{and_has, has_both, grant_set_at, grant_set_parts}
use Rattle.access.proofs.OperationLaws.{kind_below}
use Rattle.verdicts.proofs.Moves.{some_op_from, some_op_found}

-- whether the policy alone allows a to read b
abbrev pub direct : Meaning → ℕ → ℕ → Bool
direct m a b = some_op read_op (bit_and (m.written a b) (m.permitted a b))

pub direct_from : (m : Meaning) (a b : ℕ) → ReadsDirectly m a b → T (direct m a b)
direct_from m a b r =
    let o = r.operation in
    some_op_from read_op (bit_and (m.written a b) (m.permitted a b)) o (kind_below read_like o (λ e. e) r.reads) r.reads
    (has_both (m.written a b) (m.permitted a b) o r.allowed.is_written r.allowed.is_permitted)

pub direct_found : (m : Meaning) (a b : ℕ) → T (direct m a b) → ReadsDirectly m a b
direct_found m a b h =
    let r = some_op_found read_op (bit_and (m.written a b) (m.permitted a b)) h in
    let c = and_has (m.written a b) (m.permitted a b) r.0 r.2 in
    record { operation = r.0; reads = r.1; allowed = record { is_written = c.0; is_permitted = c.1 } }

-- whether a grant under number k gives an interaction
abbrev pub given_test : Grants → ℕ → Interaction → Bool
given_test [] k i = false
given_test (j ∷ js) k i = (eqb j.0 k && has (grant_set j.1 i.subject i.target) i.operation) || given_test js k i

pub given_found : (js : Grants) (k : ℕ) (i : Interaction) → T (given_test js k i) → Given js k i
given_found [] k i h = elim h [ ]
given_found (j ∷ js) k i h =
    ⊎_elim
    (λ p. let q = both_parts (eqb j.0 k) _ p in
    let r = grant_set_parts j.1 i.subject i.target i.operation q.1 in
    record { over = record { grant = j.1; stands = subst (λ x. Standing x j.1 (j ∷ js)) (eqb→eq j.0 k q.0) here; subject = r.0; target = r.1 }; gives = r.2 })
    (λ p. let g = given_found js k i p in
    record { over = record { grant = g.over.grant; stands = there g.over.stands; subject = g.over.subject; target = g.over.target }; gives = g.gives })
    (either_part (eqb j.0 k && has (grant_set j.1 i.subject i.target) i.operation) (given_test js k i) h)

stands_given : {k : ℕ} {g : Grant} {js : Grants} (i : Interaction) → Standing k g js → T (has (grant_set g i.subject i.target) i.operation) → T (given_test js k i)
stands_given {k} {g} i (here {gs = js}) h = left (eqb k k && _) (given_test js k i) (both (eqb k k) _ (eqb_refl k) h)
stands_given {k} {g} i (there {j = j} {gs = js} r) h = right (eqb j.0 k && has (grant_set j.1 i.subject i.target) i.operation) (given_test js k i) (stands_given i r h)

pub given_from : (gs : Grants) (k : ℕ) (i : Interaction) → Given gs k i → T (given_test gs k i)
given_from gs k i g = stands_given i g.over.stands (subst (λ x. T (has x i.operation)) (sym (grant_set_at g.over.grant i.subject i.target g.over.subject g.over.target)) g.gives)
