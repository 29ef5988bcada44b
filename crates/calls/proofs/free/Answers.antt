use mathlib.Core.Path.{◌∙◌}
use Rattle.sound_pools.proofs.Validated.{whole, free_does}
use Rattle.calls.proofs.free.Goals as goal

pub free_sound-requires : goal.free_sound-requires
free_sound-requires c = whole c.in_ok-pages.ensures.sound

pub returns : goal.returns
returns c =
    let all = free_does c.in_ok-pages.ensures.sound c.args.at.0 in
    record { answer = c.free_sound.ensures.answer ∙ all.0; slice = c.free_sound.ensures.slice ∙ all.1 }
