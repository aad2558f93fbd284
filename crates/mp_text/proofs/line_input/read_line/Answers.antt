use Rattle.std.proofs.Common.{subst, rules}
use Rattle.mp_text.specs.declared.line_input.LineRead.TheVariants as told
use Rattle.mp_text.specs.LineInput.{IsLine}
use Rattle.mp_text.specs.Inside.LineInput.{IsStep}
use Rattle.mp_text.proofs.LineInput.{kept-feed, kept-end, end-some, kept-rest, kept-long, kept-lost, if_ok, skipped}
use Rattle.mp_text.proofs.line_input.read_line.Goals as goal

pub returns-in-Feed-clause-rest : goal.returns-in-Feed-clause-rest
returns-in-Feed-clause-rest g c =
    (kept-feed c.args.limit (g.R.Read.remaining c.args.reader.now) (g.R.Read.remaining c.loop.reader) (g.R.Read.remaining c.read_part.new.reader) c.loop.line.items c.read_part.new.line.items c.loop.invariant
    (subst (IsStep c.args.limit _ _ _ _) c.in-Feed.is c.in_ok-read_part.ensures.step) c.read_part.ensures.bounded).0

pub returns-in-Feed-clause-line : goal.returns-in-Feed-clause-line
returns-in-Feed-clause-line g c =
    (kept-feed c.args.limit (g.R.Read.remaining c.args.reader.now) (g.R.Read.remaining c.loop.reader) (g.R.Read.remaining c.read_part.new.reader) c.loop.line.items c.read_part.new.line.items c.loop.invariant
    (subst (IsStep c.args.limit _ _ _ _) c.in-Feed.is c.in_ok-read_part.ensures.step) c.read_part.ensures.bounded).1

pub returns-in-End-2-clause-rest : goal.returns-in-End-2-clause-rest
returns-in-End-2-clause-rest g c =
    let step = subst (IsStep c.args.limit (g.R.Read.remaining c.loop.reader) (g.R.Read.remaining c.read_part.new.reader) c.loop.line.items c.read_part.new.line.items) c.in-End-2.is c.in_ok-read_part.ensures.step in
    (kept-end c.args.limit (g.R.Read.remaining c.args.reader.now) (g.R.Read.remaining c.loop.reader) (g.R.Read.remaining c.read_part.new.reader) c.loop.line.items c.loop.invariant step.1 step.2).0

pub returns-in-End-2-clause-line : goal.returns-in-End-2-clause-line
returns-in-End-2-clause-line g c =
    let step = subst (IsStep c.args.limit (g.R.Read.remaining c.loop.reader) (g.R.Read.remaining c.read_part.new.reader) c.loop.line.items c.read_part.new.line.items) c.in-End-2.is c.in_ok-read_part.ensures.step in
    end-some c.args.limit (g.R.Read.remaining c.args.reader.now) c.loop.line.items c.read_part.new.line.items step.0 (λ none. search rules) c.loop.invariant.short
    (kept-end c.args.limit (g.R.Read.remaining c.args.reader.now) (g.R.Read.remaining c.loop.reader) (g.R.Read.remaining c.read_part.new.reader) c.loop.line.items c.loop.invariant step.1 step.2).1

pub returns-in-TooLong-clause-rest : goal.returns-in-TooLong-clause-rest
returns-in-TooLong-clause-rest g c =
    let step = subst (IsStep c.args.limit (g.R.Read.remaining c.loop.reader) (g.R.Read.remaining c.read_part.new.reader) c.loop.line.items c.read_part.new.line.items) c.in-TooLong.is c.in_ok-read_part.ensures.step in
    if_ok c.skip.result _ _ c.skip.ensures.rest
    (kept-rest (g.R.Read.remaining c.args.reader.now) (g.R.Read.remaining c.loop.reader) (g.R.Read.remaining c.read_part.new.reader) (g.R.Read.remaining c.skip.new.reader) c.args.limit c.loop.line.items c.loop.invariant step.1)

pub returns-in-TooLong-clause-line : goal.returns-in-TooLong-clause-line
returns-in-TooLong-clause-line g c =
    let step = subst (IsStep c.args.limit (g.R.Read.remaining c.loop.reader) (g.R.Read.remaining c.read_part.new.reader) c.loop.line.items c.read_part.new.line.items) c.in-TooLong.is c.in_ok-read_part.ensures.step in
    skipped (g.R.Read.remaining c.args.reader.now) c.skip.result told.TooLong (λ bytes read. IsLine c.args.limit bytes read c.read_part.new.line.items) c.skip.ensures.read
    (kept-long c.args.limit (g.R.Read.remaining c.args.reader.now) (g.R.Read.remaining c.loop.reader) c.loop.line.items c.read_part.new.line.items c.loop.invariant step.2)

pub returns-in-Lost-clause-rest : goal.returns-in-Lost-clause-rest
returns-in-Lost-clause-rest g c =
    let step = subst (IsStep c.args.limit (g.R.Read.remaining c.loop.reader) (g.R.Read.remaining c.read_part.new.reader) c.loop.line.items c.read_part.new.line.items) c.in-Lost.is c.in_ok-read_part.ensures.step in
    if_ok c.skip-in-Lost.result _ _ c.skip-in-Lost.ensures.rest
    (kept-rest (g.R.Read.remaining c.args.reader.now) (g.R.Read.remaining c.loop.reader) (g.R.Read.remaining c.read_part.new.reader) (g.R.Read.remaining c.skip-in-Lost.new.reader) c.args.limit c.loop.line.items c.loop.invariant step.1)

pub returns-in-Lost-clause-line : goal.returns-in-Lost-clause-line
returns-in-Lost-clause-line g c =
    let step = subst (IsStep c.args.limit (g.R.Read.remaining c.loop.reader) (g.R.Read.remaining c.read_part.new.reader) c.loop.line.items c.read_part.new.line.items) c.in-Lost.is c.in_ok-read_part.ensures.step in
    skipped (g.R.Read.remaining c.args.reader.now) c.skip-in-Lost.result told.Lost (λ bytes read. IsLine c.args.limit bytes read c.read_part.new.line.items) c.skip-in-Lost.ensures.read
    (kept-lost c.args.limit (g.R.Read.remaining c.args.reader.now) (g.R.Read.remaining c.loop.reader) c.loop.line.items c.read_part.new.line.items c.loop.invariant step.2)
