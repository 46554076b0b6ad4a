use Rattle.std.proofs.Common.{◌≡◌, ◌++◌, take, ap, sym, ◌∙◌, append-nil, option_to_list}
use Rattle.modes_frame.specs.Lines.{pending, ended_cuts}
use Rattle.modes_frame.proofs.LineLemmas.{held-before, ended-before, to-line_feed}
use Rattle.modes_frame.proofs.cutter.Cutter.push_line.Goals as goal

pub returns-else-end-bytes-clause-held : goal.returns-else-end-bytes-clause-held
returns-else-end-bytes-clause-held c before h =
    held-before c.args.self.now c.lengthen.new.self before c.args.bytes.now c.line_length-end.result c.line_length-end.ensures.within c.line_length-end.ensures.before
    c.lengthen.ensures h

pub returns-else-end-bytes-clause-given : goal.returns-else-end-bytes-clause-given
returns-else-end-bytes-clause-given c before h =
    ended-before before c.args.bytes.now c.line_length-end.result c.line_length-end.ensures.within c.line_length-end.ensures.before
    ∙ sym (append-nil (ended_cuts before))

pub returns-then-end-bytes-clause-held : goal.returns-then-end-bytes-clause-held
returns-then-end-bytes-clause-held c before h =
    let bytes = c.args.bytes.now in
    let end = c.line_length-end.result in
    let found = c.line_length-end.ensures.found c.if-end-bytes.true in
    let held : c.lengthen.new.self ≡ pending (before ++ take end bytes) =
    held-before c.args.self.now c.lengthen.new.self before bytes end c.line_length-end.ensures.within c.line_length-end.ensures.before c.lengthen.ensures h in
    c.push.ensures.held (before ++ take end bytes) held ∙ ap pending (to-line_feed before bytes end c.if-end-bytes.true found)

pub returns-then-end-bytes-clause-given : goal.returns-then-end-bytes-clause-given
returns-then-end-bytes-clause-given c before h =
    let bytes = c.args.bytes.now in
    let end = c.line_length-end.result in
    let found = c.line_length-end.ensures.found c.if-end-bytes.true in
    let held : c.lengthen.new.self ≡ pending (before ++ take end bytes) =
    held-before c.args.self.now c.lengthen.new.self before bytes end c.line_length-end.ensures.within c.line_length-end.ensures.before c.lengthen.ensures h in
    sym (ap ended_cuts (to-line_feed before bytes end c.if-end-bytes.true found))
    ∙ c.push.ensures.given (before ++ take end bytes) held
    ∙ ap (λ l. l ++ option_to_list c.push.result) (ended-before before bytes end c.line_length-end.ensures.within c.line_length-end.ensures.before)
