use Rattle.station_desk.proofs.publisher.new_place.Goals as goal

pub blank_place-requires : goal.blank_place-requires
blank_place-requires g c = search

pub pass_view-requires : goal.pass_view-requires
pass_view-requires g c = (search, c.in_ok-place.ensures.table)
