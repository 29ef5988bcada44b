use Rattle.sound_pools.proofs.Validated.{whole}
use Rattle.free_all.proofs.Whole.{granted-low, back_is, ready, carried}
use borrow.Author.Rules.{rules}
use Rattle.free_all.proofs.on_sound.Goals as goal

pub try_list-t-requires : goal.try_list-t-requires
try_list-t-requires c = whole c.requires

pub take_back-requires : goal.take_back-requires
take_back-requires c = granted-low c.requires _ _ _ c.try_list-t.ensures.answer c.granted-n.ensures

pub finish-requires : goal.finish-requires
finish-requires c = let tried = c.try_list-t.ensures in
    ready c.requires _ _ _ tried.answer c.granted-n.ensures _ _ tried.slice c.take_back.ensures

pub returns : goal.returns
returns c =
    let all =
    let tried = c.try_list-t.ensures in
    let same = back_is c.requires _ _ _ tried.answer c.granted-n.ensures _ _ tried.slice c.take_back.ensures in
    carried c.requires _ _ same (c.finish.ensures.answer, c.finish.ensures.slice) in
    record { answer = all.0; slice = all.1 }
