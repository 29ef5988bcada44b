use mathlib.Core.Path.{◌∙◌}
use Rattle.sound_pools.proofs.Validated.{whole, alloc_does}
use Rattle.calls.proofs.alloc.Goals as goal

pub alloc_sound-requires : goal.alloc_sound-requires
alloc_sound-requires c = whole c.in_ok-pages.ensures.sound

pub returns : goal.returns
returns c =
    let all = alloc_does c.in_ok-pages.ensures.sound c.args.size in
    record { answer = c.alloc_sound.ensures.answer ∙ all.0; slice = c.alloc_sound.ensures.slice ∙ all.1 }
