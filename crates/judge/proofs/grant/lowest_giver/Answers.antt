use Rattle.std.proofs.Common.{◌≡◌, true, false, None, Some, rules, arith}
use Rattle.std.proofs.lemmas.Iterator.{IsFirst-from_position, YieldsList-from_slice}
use Rattle.access.specs.Operations.{has, number_of}
use Rattle.judge.specs.Grants.{given_by}
use Rattle.judge.proofs.Entries.{first_giver, no_giver}
use Rattle.judge.proofs.grant.lowest_giver.Goals as goal

pub returns-in_err-place : goal.returns-in_err-place
returns-in_err-place c =
    let o = number_of c.args.operation in
    let none = IsFirst-from_position _ _ None (λ e. has (given_by e c.args.s c.args.t) o ≡ true) (λ e. has (given_by e c.args.s c.args.t) o ≡ false) c.in_err-place.ensures.ran (YieldsList-from_slice c.args.grants.now cc) (λ x q k. search rules) (λ x q k. search rules) in
    let n = no_giver c.args.grants.now c.args.s c.args.t o (λ k l. none k _ (omega arith) l) in search rules

pub returns : goal.returns
returns c =
    let o = number_of c.args.operation in
    let first = IsFirst-from_position _ _ (Some c.in_ok-place.place) (λ e. has (given_by e c.args.s c.args.t) o ≡ true) (λ e. has (given_by e c.args.s c.args.t) o ≡ false) c.in_ok-place.ensures.ran (YieldsList-from_slice c.args.grants.now cc) (λ x q k. search rules) (λ x q k. search rules) in
    first_giver c.args.grants.now c.args.s c.args.t o c.in_ok-place.place (first.1 _) (λ k l. first.2 k _ (omega arith) l)
