-- What is shown when a station begins.
use Rattle.std.proofs.Common.{◌≡◌, ℕ, ◌+◌, ◌≤◌, List, [], ◌∷◌, ◌++◌, None, Some, length, take, drop, sym, ap, ◌∙◌, subst, inl, arith, reverse}
use Rattle.std.proofs.lemmas.List.{length-reverse, reverse-append, length-take-le, take-append-drop}
use Rattle.station_journal.specs.declared.entry.Entry.{Entry}
use Rattle.station_journal.proofs.Common.{IsFirstUnsound, Sound, IsSound, LegalFrom, IsUnsoundAt}
use Rattle.station_journal.specs.declared.limits.Limits.{Limits}
use Rattle.station_journal.proofs.SoundLemmas.{sound_by_counts, sound_by_fits, legal_resumed}
use Rattle.station_book.proofs.Common.{BookState, Matches}
use Rattle.station_history.proofs.Common.{Known, base_of}
use Rattle.station_desk.proofs.Common.{Sheet, sheet, Follows, BeginsWith, Origin}

-- the older part of a sound past is sound
sound_behind : (n base : ℕ) (newer past : List Entry) → Sound n base (newer ++ past) → Sound n base past
sound_behind n base [] past sound = sound
sound_behind n base (entry ∷ newer) past sound = sound_behind n base newer past sound.1

pub sound_front : (n base k : ℕ) (entries : List Entry) → Sound n base (reverse entries) → Sound n base (reverse (take k entries))
sound_front n base k entries sound =
    let parts : reverse entries ≡ reverse (drop k entries) ++ reverse (take k entries) = ap (λ (l : List Entry). reverse l) (sym (take-append-drop k entries)) ∙ reverse-append (take k entries) (drop k entries) in
    sound_behind n base (reverse (drop k entries)) (reverse (take k entries)) (subst (λ l. Sound n base l) parts sound)

pub sound_at : (limits : Limits) (n base : ℕ) (entries : List Entry) → limits.aircraft ≡ n → length entries ≤ limits.entries → Sound n base (reverse entries) → IsSound limits base (reverse entries)
sound_at limits n base entries same few sound = sound_by_counts limits base (reverse entries) (subst (λ k. Sound k base (reverse entries)) (sym same) sound) (omega (arith, few, length-reverse entries))

-- the list is unsound at its first entry that doesn't fit
pub unsound_at : (limits : Limits) (n base place : ℕ) (entries : List Entry) → limits.aircraft ≡ n → length entries ≤ limits.entries → IsFirstUnsound n base entries place → IsUnsoundAt limits base entries place
unsound_at limits n base place entries same few out = record {
  within = out.within;
  before = sound_at limits n base (take place entries) same (omega (arith, few, length-take-le place entries (omega (arith, out.within)), out.within)) out.before;
  with_it = λ sound. out.with_it (subst (λ k. Sound k base (reverse (take (place + 1) entries))) same (sound_by_fits limits base (reverse (take (place + 1) entries)) sound));
}

pub begins : (n base : ℕ) (old : Sheet) (book : BookState) (front : Known) (origin : Origin) (entries : List Entry) → old.origin ≡ None → front.entries ≡ entries → base_of front.name ≡ base → BeginsWith n origin entries → Matches n base book entries → book.site ≡ origin.limits.site → Follows n old (sheet book front (Some origin))
begins n base old book front origin entries none is at with m site =
    let sound : IsSound origin.limits base (reverse entries) = sound_at origin.limits n base entries with.aircraft with.room m.sound in
    let legal : LegalFrom origin.limits base origin.resumed (reverse entries) = legal_resumed origin.limits base origin.resumed (reverse entries) sound (omega (arith, with.resumed, length-reverse entries)) in
    record {
      right = λ r. record {
        matched = subst (λ k. Matches n k book front.entries) (sym at) (subst (λ es. Matches n base book es) (sym is) m);
        legal = subst (λ k. LegalFrom origin.limits k origin.resumed (reverse front.entries)) (sym at) (subst (λ (es : List Entry). LegalFrom origin.limits base origin.resumed (reverse es)) (sym is) legal);
        site = site;
      };
      same = inl none;
    }

-- a list that a book matches is sound
pub sound_given : (limits : Limits) (n b base : ℕ) (book : BookState) (given items : List Entry) → limits.aircraft ≡ n → b ≡ base → given ≡ items → length items ≤ limits.entries → Matches n b book given → IsSound limits base (reverse items)
sound_given limits n b base book given items same at is few m =
    sound_at limits n base items same few (subst (λ k. Sound n k (reverse items)) at (subst (λ (es : List Entry). Sound n b (reverse es)) is m.sound))
