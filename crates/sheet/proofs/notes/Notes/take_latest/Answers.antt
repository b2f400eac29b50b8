use Rattle.std.proofs.Common.{[], ◌≡◌, sym, ◌∙◌, arith}
use Rattle.sheet.proofs.Latest.{latest_none, latest_less}
use Rattle.sheet.proofs.notes.Notes.take_latest.Goals as goal

pub returns-in_err-self-inside : goal.returns-in_err-self-inside
returns-in_err-self-inside c =
    let empty : c.args.self.now ≡ [] = sym c.self.view_is ∙ latest_none c.self.inside.list c.self.inside.count (omega arith) in
    rw c.from_residual.ensures (empty, empty)

pub returns : goal.returns
returns c =
    sym c.self.view_is ∙ latest_less c.self.inside.list c.self.inside.count c.in_ok-self-inside.field-0 (omega arith)
