use Rattle.free_sound.proofs.Given.{counts_in, links_in, mark_in, chunk-told, not-marked, given_back}
use borrow.Author.Tests.{not-true, not-false}
use borrow.Author.Rules.{rules}
use Rattle.free_sound.proofs.give_marked.Goals as goal

pub get_mark_in-requires : goal.get_mark_in-requires
get_mark_in-requires c = mark_in _ c.args.pool.now _ _ _ _ c.map_word-k.ensures.answer c.requires.3 c.requires.1 _ c.requires.2

pub returns-then-not-get_mark_in : goal.returns-then-not-get_mark_in
returns-then-not-get_mark_in c =
    let all =
    let place = c.map_word-k.ensures.answer in
    not-marked _ _ _ _ _ _ place _ _ (chunk-told _ _ _ _ _ _ place _ _ c.requires.2 c.get_mark_in.ensures) c.if-not-get_mark_in.true in
    record { answer = all.0; slice = all.1 }

pub free_chunk-requires : goal.free_chunk-requires
free_chunk-requires c = let s = c.args.pool.now in
    let place = c.map_word-k.ensures.answer in (
      c.requires.0,
      c.requires.2,
      c.map_word-k.ensures.bound,
      mark_in _ s _ _ _ _ place c.requires.3 c.requires.1 _ c.requires.2,
      counts_in _ s _ _ _ _ place c.requires.3 c.requires.0,
      links_in _ s _ _ _ _ place c.requires.3 c.requires.1,
    )

pub returns : goal.returns
returns c =
    let all =
    let place = c.map_word-k.ensures.answer in
    given_back _ _ _ _ _ _ place _ _ (chunk-told _ _ _ _ _ _ place _ _ c.requires.2 c.get_mark_in.ensures) _ _ c.if-not-get_mark_in.false c.bytes_of.ensures c.free_chunk.ensures in
    record { answer = all.0; slice = all.1 }
