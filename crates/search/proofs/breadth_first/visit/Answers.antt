use Rattle.std.proofs.Common.{arith}
use Rattle.search.proofs.Rooms.{added}
use Rattle.search.proofs.Frontier.{room, stepped_push, put_behind}
use Rattle.search.proofs.breadth_first.visit.Goals as goal

pub returns-clause-stepped : goal.returns-clause-stepped
returns-clause-stepped g c =
    let l = room _ _ _ _ _ c.requires.ready c.requires.sound c.requires.fresh in
    let a = added _ _ _ _ _ c.push.result (omega (arith, c.requires.ready.queue.fits.places)) c.push.ensures.pushed in
    stepped_push _ c.args.ticks.now c.tick.new.self c.args.places.now c.push.new.self _ c.target.result c.requires.ready c.requires.sound
    c.requires.fresh c.tick.ensures.set a.written a.one c.target.ensures

pub returns-clause-pushed : goal.returns-clause-pushed
returns-clause-pushed g c =
    let l = room _ _ _ _ _ c.requires.ready c.requires.sound c.requires.fresh in
    let a = added _ _ _ _ _ c.push.result (omega (arith, c.requires.ready.queue.fits.places)) c.push.ensures.pushed in
    put_behind _ c.args.ticks.now c.args.places.now c.push.new.self _ c.requires.ready c.requires.sound c.requires.fresh a.written a.one
