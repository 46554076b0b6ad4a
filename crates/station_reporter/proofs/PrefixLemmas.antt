-- Entries that begin with others.
use Rattle.std.proofs.Common.{◌≡◌, ◌∙◌, List, [], ◌++◌, sym, ap, append_assoc, append-nil}
use mathlib.Core.List.{IsPrefix}
use Rattle.station_journal.specs.declared.entry.Entry.{Entry}

pub begins-same : (a b : List Entry) → a ≡ b → IsPrefix a b
begins-same a b same = ([], append-nil a ∙ same)

pub begins-trans : (a b c : List Entry) → IsPrefix a b → IsPrefix b c → IsPrefix a c
begins-trans a b c p q = (p.0 ++ q.0, sym (append_assoc a p.0 q.0) ∙ ap (λ (es : List Entry). es ++ q.0) p.1 ∙ q.1)
