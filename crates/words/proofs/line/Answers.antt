use Rattle.std.proofs.Common.{[], ◌++◌, ap, ◌∙◌}
use Rattle.std.specs.Str.Iter.{split_whitespace_rest}
use Rattle.std.proofs.lemmas.List.{flat_map_more}
use Rattle.std.proofs.lemmas.List.Elements.{All-nil, All-push}
use Rattle.words.specs.Words.{IsWord, bytes_of}
use Rattle.words.proofs.line.Goals as goal

pub loop-word-init : goal.loop-word-init
loop-word-init c = (All-nil _, c.new-bytes.ensures.items)

pub loop-word-preserved : goal.loop-word-preserved
loop-word-preserved c =
    let (each, gives) = c.loop-word.invariant in
    let word = c.in-Some.word in (
      All-push (λ w. IsWord w.now) c.loop-word.yielded word each c.in_ok-append.ensures.tells,
      c.in_ok-append.ensures.ok ∙ ap (λ l. l ++ bytes_of word.now) gives ∙ flat_map_more (λ w. bytes_of w.now) [] c.loop-word.yielded word,
    )

pub returns-clause-ok : goal.returns-clause-ok
returns-clause-ok c =
    let (each, gives) = c.loop-word.invariant in
    let starts = ap split_whitespace_rest c.into_iter-word-iterator.ensures.into_iter_gives ∙ c.split_whitespace-word-items.ensures.rest in
    (c.into_iter-word-iterator.result, starts, (c.loop-word.yielded, (c.next.new.self, (c.loop-word.word-iterator, c.loop-word.yielded_by, c.in-None.ensures.steps)), each, gives))
