use Rattle.std.proofs.Common.{◌≡◌, ◌<◌, true, ltb, subst, arith}
use Rattle.std.proofs.lemmas.Bool.{and_parts, ltb-true}
use Rattle.page.specs.Fits.{fits, header_fits, file_fits, content_fits}
use Rattle.replay.proofs.seen.says_of.Goals as goal

pub overflow_add-result : goal.overflow_add-result
unfolding fits
overflow_add-result c =
    let page = c.args.page.now in
    let parts = and_parts (header_fits page.header) (content_fits page.header page.content) c.requires in
    let chunk = subst (λ k. content_fits page.header k ≡ true) c.in-Chunk.is parts.1 in
    let low : c.in-Chunk.chunk.index < 32 = ltb-true c.in-Chunk.chunk.index 32 (and_parts (file_fits page.header) (ltb c.in-Chunk.chunk.index 32) chunk).1 in
    omega arith
