use Rattle.std.proofs.Common.{◌≡◌, ◌∷◌, [], arith, string_bytes, subst, sym}
use Rattle.messages.specs.Telling.{unfinished_words}
use Rattle.messages.proofs.Common.{Tells, telling_line, told_of}
use Rattle.station_paths.proofs.PathEndLemmas.{no-lines, one-line, tells-nothing}
use Rattle.station_paths.proofs.path_ends.tell_unfinished.Goals as goal

pub returns-then-before-gt0 : goal.returns-then-before-gt0
returns-then-before-gt0 g c = tells-nothing _ _ (no-lines c.args.before (string_bytes c.args.path.now ∷ []) c.if-before-gt0.true)

pub returns : goal.returns
returns g c =
    let zero : c.args.before ≡ 0 = omega (arith, c.if-before-gt0.false) in
    let told = told_of g.E.Write.contents in
    subst (Tells (told c.args.err.now) (told c.tell.new.err)) (sym (one-line c.args.before (string_bytes c.args.path.now) zero))
    (subst (λ p. Tells (told c.args.err.now) (told c.tell.new.err) (telling_line (unfinished_words p))) c.as_str.ensures.value c.tell.ensures.told)
