use Rattle.std.proofs.Common.{◌≡◌, ◌∙◌, Some, ap, refl, subst, sym}
use Rattle.station_portions.specs.Giving.{given_bytes, left_of, state_of}
use Rattle.station_portions.specs.Whole.{GivesPath}
use Rattle.station_portions.specs.declared.message.PathEnd.TheVariants.{AtEnd}
use Rattle.std.proofs.lemmas.Option.{same_Some}
use Rattle.station_paths.proofs.PathEndLemmas.{unfinished-by}
use Rattle.station_paths.proofs.path_ends.gave_all.Goals as goal

pub gave_path-is_over-requires : goal.gave_path-is_over-requires
gave_path-is_over-requires g c = record { ring = same_Some _ _ c.requires.take.ring; new = c.requires.take.new }

pub returns-clause-whole : goal.returns-clause-whole
returns-clause-whole g c = λ all.
    let two = c.both.ensures.yes all in
    let asked = c.gave_path-is_over in
    let path = asked.ensures.path two.0 in
    let at_end : asked.new.self.end ≡ Some AtEnd = sym c.end.ensures ∙ c.is_at_end.ensures.yes two.1 in
    let same : path.0 ≡ AtEnd = same_Some _ _ (sym path.1 ∙ sym asked.ensures.end ∙ at_end) in
    record {
      given = given_bytes asked.new.self;
      given_is = ap Some (sym asked.ensures.given);
      over = ap left_of path.1;
      path = subst (λ e. GivesPath (g.I.Read.remaining c.args.handle.promise.from.value) e (given_bytes asked.new.self)) same path.2;
    }

pub returns-clause-unfinished : goal.returns-clause-unfinished
returns-clause-unfinished g c = λ no.
    let asked = c.gave_path-is_over in
    let same : c.end.result ≡ c.args.input.end = c.end.ensures ∙ asked.ensures.end in
    unfinished-by _ c.args.input.end (given_bytes asked.new.self) (state_of c.args.input) asked.result c.is_at_end.result refl (ap Some (sym asked.ensures.given)) asked.ensures.path asked.ensures.goes_on
    (λ other. rw same at c.is_at_end.ensures.no other) (c.both.ensures.no no)
