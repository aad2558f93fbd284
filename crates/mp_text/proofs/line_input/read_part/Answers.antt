use Rattle.std.proofs.Common.{◌+◌, ◌-◌, ◌<◌, take, refl, sym, subst, rules, append-nil}
use Rattle.std.specs.Io.KnownBytes.{Consumes}
use Rattle.std.specs.Io.BufRead.{FillKeeps}
use Rattle.std.proofs.BufReadLemmas.{Consumes_shown}
use Rattle.mp_text.proofs.LineInput.{clear-before, with_feed, shown_le, shown_long}
use Rattle.mp_text.proofs.line_input.read_part.Goals as goal

pub returns-then-end-limit-clause-step : goal.returns-then-end-limit-clause-step
returns-then-end-limit-clause-step g c =
    let shown = c.in-Ok.shown.now in
    let rested = c.fill_buf.follows.lender-at-none in
    let filled = subst (FillKeeps _ (g.R.Read.remaining rested) (g.R.BufRead.consumable_len rested)) c.in-Ok.is c.fill_buf.follows.holds-at-none in
    (refl, filled.0, shown_long c.args.limit _ c.length_before-end.result _ (subst (λ n. c.args.limit - n < c.length_before-end.result) (search rules) c.if-end-limit.true) (shown_le shown c.length_before-end.result _ c.length_before-end.ensures.first c.length_before-end.ensures.within c.in-Ok.ensures.front))

pub returns-then-end-shown-clause-step : goal.returns-then-end-shown-clause-step
returns-then-end-shown-clause-step g c =
    let shown = c.in-Ok.shown.now in
    let end = c.length_before-end in
    let rested = c.fill_buf.follows.lender-at-none in
    let filled = subst (FillKeeps _ (g.R.Read.remaining rested) (g.R.BufRead.consumable_len rested)) c.in-Ok.is c.fill_buf.follows.holds-at-none in
    let moved = Consumes_shown _ _ (g.R.Read.remaining c.consume.new.self) _ shown (end.result + 1) (search rules) c.in-Ok.ensures.front c.in-Ok.ensures.end filled.0 filled.1 c.consume.ensures.bytes in
    (take end.result shown, clear-before shown end.result end.ensures.first end.ensures.within, search rules, subst (Consumes _ _) (with_feed shown end.result end.ensures.first c.if-end-shown.true) moved.0)

pub returns-clause-step : goal.returns-clause-step
returns-clause-step g c =
    let shown = c.in-Ok.shown.now in
    let end = c.length_before-end in
    let rested = c.fill_buf.follows.lender-at-none in
    let filled = subst (FillKeeps _ (g.R.Read.remaining rested) (g.R.BufRead.consumable_len rested)) c.in-Ok.is c.fill_buf.follows.holds-at-none in
    let moved = Consumes_shown _ _ (g.R.Read.remaining c.consume-2.new.self) _ shown end.result end.ensures.within c.in-Ok.ensures.front c.in-Ok.ensures.end filled.0 filled.1 c.consume-2.ensures.bytes in
    (take end.result shown, clear-before shown end.result end.ensures.first end.ensures.within, search rules, subst (Consumes _ _) (sym (append-nil (take end.result shown))) moved.0)
