-- What single calls come to, for the contracts of the functions that serve one request.
use Rattle.std.specs.Prelude.{◌≤◌, Bool, true, false, List, map, take, Ok, Err, Result}
use Rattle.access.specs.Refusals.{refusal_number}
use Rattle.access.specs.declared.refusal.Refusal.{Refusal}
use Rattle.judge.specs.Moved.{stepped}
use Rattle.judge.specs.declared.step.Step.{Step}
use Rattle.judge.specs.declared.verdict.Verdict.{Verdict}
use Rattle.judge.specs.declared.verdict.Verdict.TheVariants.{Guaranteed, Broken}
use Rattle.sheet.specs.declared.request.Request.{Request}
use Rattle.sheet.specs.declared.request.Request.TheVariants.{Adopt, Withdraw}
use Rattle.replay.specs.declared.answer.Answer.{Answer}
use Rattle.replay.specs.declared.answer.Answer.TheVariants.{Accepted, Refused}
use Rattle.replay.specs.Replies.{Reply, guaranteed, broken, refused}

-- what a call is answered that tells nothing but its refusal
abbrev pub plainly : Result (Unit {0}) Refusal → Answer
plainly (Ok x) = Accepted
plainly (Err why) = Refused why

-- what a judging is replied that wrote these steps
abbrev pub judgingly : Result Verdict Refusal → List Step → Reply
judgingly (Ok Guaranteed) steps = guaranteed
judgingly (Ok (Broken n)) steps = broken (map stepped (take n steps))
judgingly (Err why) steps = refused (refusal_number why)

-- a verdict has no more steps than an answer has room for
abbrev pub FitsSteps : Result Verdict Refusal → Type 0
FitsSteps (Ok (Broken n)) = n ≤ 256
FitsSteps _ = Unit {0}

-- the request that ends a change, its settings kept or not
abbrev pub deciding : Bool → Request
deciding true = Adopt
deciding false = Withdraw
