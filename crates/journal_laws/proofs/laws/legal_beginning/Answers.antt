use Rattle.station_journal.proofs.LegalJournalLemmas as lemma
use Rattle.journal_laws.proofs.laws.legal_beginning.Goals as goal

pub returns : goal.returns
returns c = lemma.legal_beginning
