-- Lists and buffers of the job `run`.
use Rattle.std.proofs.Common.{◌≡◌, ◌∙◌, ℕ, List, [], ◌∷◌, ◌++◌, zero, suc, length-append, refl, sym, ap, take, drop, length, arith, nat_lt, not}
use Rattle.std.proofs.Math.Seq.{take-append_seam}
use Rattle.station_journal.specs.declared.entry.Entry.{Entry}
use Rattle.station_shared.specs.Seats.{new_seat, new_seats}

-- a vector that was lent as a slice
pub whole_list : {W : Type 0} (len : ℕ) (ws old : List W) → length ws ≡ length old → len ≡ length old → take len (ws ++ drop (length ws) old) ≡ ws
whole_list len ws old same is = ap (λ n. take n (ws ++ drop (length ws) old)) (is ∙ sym same) ∙ take-append_seam ws (drop (length ws) old)

pub length_new_seats : (entries : List Entry) (blind n : ℕ) → length (new_seats entries blind n) ≡ n
length_new_seats entries blind zero = refl
length_new_seats entries blind (suc n) = omega (arith, length-append (new_seats entries blind n) (new_seat entries (not (nat_lt n blind)) n ∷ []), length_new_seats entries blind n)
