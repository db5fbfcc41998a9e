-- Laws of the places of records.
use Rattle.std.proofs.Common.{◌≡◌, ◌<◌, ◌≤◌, ℕ, ◌+◌, ◌-◌, ◌*◌, ◌/◌, ◌%◌, Bool, true, false, if◌then◌else◌, nat_le, List, ◌++◌, take, drop, replicate, length, Option, Some, None, refl, sym, ◌∙◌, ap, subst, arith, append_assoc, length-append}
use Rattle.std.proofs.lemmas.Bool.{leb-true}
use Rattle.std.proofs.lemmas.List.{drop_at, take_all, length-replicate}
use Rattle.std.proofs.lemmas.Nat.{div-add-mod', mod-mul-add}
use Rattle.base_files.specs.Extents.{block_len, IsPlaced}
use Rattle.base_files.specs.Seen.{Seen, appended}
use Rattle.base_files.specs.Told.{adds, Tells, TellsLength, part_told}
use Rattle.block_store.specs.Placing.{padding}

-- Behind zero bytes up to the next block stands the first byte of a block.
next_block : (end : ℕ) → (end + (131072 - end % 131072)) % 131072 ≡ 0
next_block end =
    let whole : end / 131072 * 131072 + end % 131072 ≡ end = div-add-mod' end 131072 in
    let below : end % 131072 < 131072 = omega arith in
    let more : (end / 131072 + 1) * 131072 + 0 ≡ end + (131072 - end % 131072) = omega (arith, whole, below) in
    subst (λ n. n % 131072 ≡ 0) more (mod-mul-add (end / 131072 + 1) 131072 0 (omega arith))

pads : (end len : ℕ) (fits : Bool) → nat_le (end % block_len + len) block_len ≡ fits → len ≤ 131071 →
    (end + (if fits then 0 else block_len - end % block_len)) % block_len + len ≤ block_len
pads end len true is short =
    let room : end % 131072 + len ≤ 131072 = leb-true _ _ is in
    let same : end ≡ end + 0 = omega arith in
    subst (λ n. n % 131072 + len ≤ 131072) same room
pads end len false is short = let none : (end + (131072 - end % 131072)) % 131072 ≡ 0 = next_block end in omega (arith, none, short)

pub padding-fits : (end len : ℕ) → len ≤ 131071 → (end + padding end len) % block_len + len ≤ block_len
unfolding padding
padding-fits end len short = pads end len _ refl short

-- A record lies within the file that ends behind it, and within a block.
pub placed_in_block : (end pad len last : ℕ) → pad ≡ padding end len → len ≤ 131071 → end + pad + len ≤ last → IsPlaced last (record { offset = end + pad; len = len })
placed_in_block end pad len last is short within = record {
  in_block = subst (λ n. (end + n) % block_len + len ≤ block_len) (sym is) (padding-fits end len short);
  in_file = within;
}

-- The bytes that were added behind others, at the end and some zero bytes.
added_bytes : (games zeros bytes : List ℕ) (place : ℕ) → place ≡ length games + length zeros → bytes ≡ take (length bytes) (drop place (games ++ (zeros ++ bytes)))
added_bytes games zeros bytes place is =
    let behind : drop place ((games ++ zeros) ++ bytes) ≡ bytes = drop_at (games ++ zeros) bytes place (length-append games zeros ∙ sym is) in
    let joined : (games ++ zeros) ++ bytes ≡ games ++ (zeros ++ bytes) = append_assoc games zeros bytes in
    let here : drop place (games ++ (zeros ++ bytes)) ≡ bytes = subst (λ all. drop place all ≡ bytes) joined behind in
    sym (ap (take (length bytes)) here ∙ take_all (length bytes) bytes (omega arith))

added_told : (games : Option (List ℕ)) (end pad place : ℕ) (bytes : List ℕ) → TellsLength games end → place ≡ end + pad →
    Tells (part_told (adds games (replicate pad 0 ++ bytes)) place (length bytes)) bytes
added_told None end pad place bytes told is = tt
added_told (Some games) end pad place bytes told is =
    added_bytes games (replicate pad 0) bytes place (is ∙ ap (λ n. n + pad) told ∙ ap (λ n. length games + n) (sym (length-replicate pad 0)))

-- A record that was added stands behind the end and the zero bytes.
pub added_there : (before after : Seen) (end pad place : ℕ) (bytes : List ℕ) → after ≡ appended (replicate pad 0 ++ bytes) before → TellsLength before.games end →
    place ≡ end + pad → Tells (part_told after.games place (length bytes)) bytes
added_there before after end pad place bytes added told is =
    let same : after.games ≡ adds before.games (replicate pad 0 ++ bytes) = ap (λ seen. seen.games) added in
    subst (λ games. Tells (part_told games place (length bytes)) bytes) (sym same) (added_told before.games end pad place bytes told is)
