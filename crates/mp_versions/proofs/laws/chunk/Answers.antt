use Rattle.std.proofs.Common.{◌≡◌, ◌≤◌, length, subst}
use Rattle.std.specs.List.{All}
use Rattle.mp_versions.specs.Version.{Version}
use Rattle.mp_versions.specs.Layout.{chunks_in}
use Rattle.mp_versions.specs.Pages.{flattened}
use Rattle.mp_versions.proofs.Chunks.{joined_in, all_in, all_least, all_most}
use Rattle.mp_versions.proofs.laws.chunk.Goals as goal

pub returns-clause-joined : goal.returns-clause-joined
returns-clause-joined c = subst (λ (v : Version). flattened v.chunks ≡ v.pool.items) c.version.view_is (joined_in c.version.inside.layout)

pub returns-clause-least : goal.returns-clause-least
returns-clause-least c = subst (λ (v : Version). All (λ l. 1 ≤ length l) v.chunks) c.version.view_is (all_least (chunks_in c.version.inside.layout) (all_in c.version.inside.layout c.version.invariant.laid))

pub returns-clause-most : goal.returns-clause-most
returns-clause-most c = subst (λ (v : Version). All (λ l. length l ≤ 64) v.chunks) c.version.view_is (all_most (chunks_in c.version.inside.layout) (all_in c.version.inside.layout c.version.invariant.laid))
