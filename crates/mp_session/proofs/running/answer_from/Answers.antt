use Rattle.std.proofs.Common.{ℕ, List, subst, sym, arith}
use Rattle.std.specs.Prelude.{Option, Err}
use Rattle.std.specs.Io.KnownBytes.{Appends}
use Rattle.mp_text.specs.Lines.{lines_of}
use Rattle.mp_text.specs.Output.{AppendsFront}
use Rattle.mp_signatures.specs.declared.scheme.Scheme.{Scheme}
use Rattle.mp_session.specs.Ending.{AreAnswers}
use Rattle.mp_session.proofs.Progress.{Progress, begins, goes_on, is_cut, value_of, halts}
use Rattle.mp_session.proofs.running.answer_from.Goals as goal

pub loop-line-init : goal.loop-line-init
loop-line-init g c =
    let scheme : Scheme = c.args.scene.now.signatures in
    let old : Option (List ℕ) = g.W.Write.contents c.args.writer.now in
    let all : List (List ℕ) = lines_of c.args.text.now in
    (subst (λ s. Progress scheme old old all all s 1) (sym c.requires.empty) (begins scheme old all), omega (arith, c.requires.short))

pub loop-line-preserved : goal.loop-line-preserved
loop-line-preserved g c =
    let scheme : Scheme = c.args.scene.now.signatures in
    let old : Option (List ℕ) = g.W.Write.contents c.args.writer.now in
    let now : Option (List ℕ) = g.W.Write.contents c.loop-line.writer in
    let new : Option (List ℕ) = g.W.Write.contents c.write_all.new.writer in
    let all : List (List ℕ) = lines_of c.args.text.now in (
      goes_on scheme old now new all (lines_of c.in-Some.after.now) c.loop-line.scene c.read_line.new.self c.loop-line.number c.in-Some.line.now c.in-Ok.answer.items
          (subst (λ r. Progress scheme old now all r c.loop-line.scene c.loop-line.number) c.in-Some.ensures.first c.loop-line.invariant.0)
          c.in-Ok.ensures.ok (subst (Appends now new) c.deref.ensures.value c.in-Ok-write_all.ensures.ok),
      omega (arith, c.loop-line.invariant.1, c.in-Some.ensures.shorter),
    )

pub returns-in-Err-write_all : goal.returns-in-Err-write_all
returns-in-Err-write_all g c =
    let scheme : Scheme = c.args.scene.now.signatures in
    let old : Option (List ℕ) = g.W.Write.contents c.args.writer.now in
    let now : Option (List ℕ) = g.W.Write.contents c.loop-line.writer in
    let new : Option (List ℕ) = g.W.Write.contents c.write_all.new.writer in
    let all : List (List ℕ) = lines_of c.args.text.now in (
      c.requires.short,
      is_cut scheme old now new all (lines_of c.in-Some.after.now) c.loop-line.scene c.read_line.new.self c.loop-line.number c.in-Some.line.now c.in-Ok.answer.items
          (subst (λ r. Progress scheme old now all r c.loop-line.scene c.loop-line.number) c.in-Some.ensures.first c.loop-line.invariant.0)
          c.in-Ok.ensures.ok (subst (AppendsFront now new) c.deref.ensures.value c.in-Err-write_all.ensures.err),
    )

pub returns-in-Err : goal.returns-in-Err
returns-in-Err g c =
    let scheme : Scheme = c.args.scene.now.signatures in
    let old : Option (List ℕ) = g.W.Write.contents c.args.writer.now in
    let now : Option (List ℕ) = g.W.Write.contents c.loop-line.writer in
    let all : List (List ℕ) = lines_of c.args.text.now in
    subst (λ s. AreAnswers scheme c.args.text.now old now (Err s)) (sym c.stop_at.ensures) (
    halts scheme (value_of c.read_line.result) c.args.text.now old now (lines_of c.in-Some.after.now) c.loop-line.scene c.loop-line.number c.in-Some.line.now c.in-Err.fault c.requires.short
    (subst (λ r. Progress scheme old now all r c.loop-line.scene c.loop-line.number) c.in-Some.ensures.first c.loop-line.invariant.0)
    c.in-Err.ensures.bad
    )
