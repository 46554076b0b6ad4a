use Rattle.table_laws.proofs.NumberLemmas.{read_octal-squawk}
use Rattle.table_laws.proofs.NumberTextLemmas.{whole_spelled, natural_spelled, tenths_spelled, seconds_spelled, latitude_spelled, longitude_spelled, read_hex-low}
use Rattle.table_laws.proofs.laws.values_read_back.Goals as goal

pub returns-clause-whole : goal.returns-clause-whole
returns-clause-whole c = whole_spelled

pub returns-clause-natural : goal.returns-clause-natural
returns-clause-natural c = natural_spelled

pub returns-clause-tenths : goal.returns-clause-tenths
returns-clause-tenths c = tenths_spelled

pub returns-clause-thousandths : goal.returns-clause-thousandths
returns-clause-thousandths c = seconds_spelled

pub returns-clause-latitude : goal.returns-clause-latitude
returns-clause-latitude c = latitude_spelled

pub returns-clause-longitude : goal.returns-clause-longitude
returns-clause-longitude c = longitude_spelled

pub returns-clause-address : goal.returns-clause-address
returns-clause-address c = read_hex-low

pub returns-clause-squawk : goal.returns-clause-squawk
returns-clause-squawk c = read_octal-squawk
