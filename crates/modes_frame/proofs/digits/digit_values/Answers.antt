use Rattle.std.proofs.Common.{refl, ◌∙◌, bit_and}
use Rattle.std.proofs.lemmas.Simd.{splat_is_map, zip2_of_maps, zip2_splat}
use mir.Syntax.{mask, lt, unsigned, wrap_add, wrap_sub, w8}
use borrow.Rule.Simd.Lanes.{act2}
use borrow.Table.Row.{s_int}
use Rattle.modes_frame.proofs.AllByteLemmas.{all_of_width}
use Rattle.modes_frame.proofs.LaneLemmas.{selected, values-are}
use Rattle.modes_frame.proofs.digits.digit_values.Goals as goal

pub returns : goal.returns
unfolding all_of_width
returns c =
    let v = c.args.bytes in
    let long = c.fits-bytes.0 in
    let below = act2 (mask (lt unsigned)) (s_int w8) (s_int w8) (s_int w8) in
    let plus = act2 wrap_add (s_int w8) (s_int w8) (s_int w8) in
    let minus = act2 wrap_sub (s_int w8) (s_int w8) (s_int w8) in
    let splat = splat_is_map v 16 in
    let highest = zip2_splat plus v 16 198 long in
    let capped = selected _ _ _ v (zip2_of_maps below _ _ v highest (splat 6 long)) (splat 6 long) highest in
    let decimal = zip2_of_maps minus _ _ v (zip2_of_maps minus _ _ v capped (splat 6 long)) (splat 240 long) in
    let from_a = zip2_of_maps minus _ _ v (zip2_splat bit_and v 16 223 long) (splat 65 long) in
    let letter = zip2_of_maps plus _ _ v (selected _ _ _ v (zip2_of_maps below _ _ v from_a (splat 6 long)) from_a (splat 6 long)) (splat 10 long) in
    selected _ _ _ v (zip2_of_maps below _ _ v decimal letter) decimal letter ∙ values-are _ refl v c.fits-bytes.1
