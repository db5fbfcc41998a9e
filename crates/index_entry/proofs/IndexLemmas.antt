-- An index that is written is read again.
use Rattle.std.proofs.Common.{◌≡◌, ◌<◌, ◌+◌, ◌*◌, ℕ, List, ◌++◌, length, take, drop, Result, Ok, Err, ap, ◌∙◌, arith}
use Rattle.std.specs.Prelude.{IfOk, OnOk}
use Rattle.std.proofs.lemmas.Bool.{le-ltb}
use Rattle.std.proofs.lemmas.List.{take_at, drop_at, length-append}
use Rattle.byteorder.specs.Endian.{big_bytes}
use Rattle.byteorder.specs.Numbers.{big_number-reads_back}
use Rattle.index_entry.specs.declared.index.IndexHead.{IndexHead}
use Rattle.index_entry.specs.Index.{number_in, head_in, header_read, index_read, index_bytes, IsIndexHead}

pub index_again : (h : IndexHead) (entries : List ℕ) → IsIndexHead h → h.kind < 4294967296 → length h.description ≡ 108 → length h.custom ≡ 54
    → length entries ≡ 47 * h.games → index_read (index_bytes h entries) ≡ Ok h
unfolding index_read header_read index_bytes head_in
index_again h entries is kind_fits long custom_long sized =
    let kind : number_in 10 4 (index_bytes h entries) ≡ h.kind =
    big_number-reads_back 4 h.kind (big_bytes 3 h.games ++ (big_bytes 3 h.autoload ++ (h.description ++ (h.custom ++ entries)))) kind_fits in
    let games : number_in 14 3 (index_bytes h entries) ≡ h.games =
    big_number-reads_back 3 h.games (big_bytes 3 h.autoload ++ (h.description ++ (h.custom ++ entries))) (omega (arith, is)) in
    let autoload : number_in 17 3 (index_bytes h entries) ≡ h.autoload =
    big_number-reads_back 3 h.autoload (h.description ++ (h.custom ++ entries)) (omega (arith, is)) in
    let description : take 108 (drop 20 (index_bytes h entries)) ≡ h.description = take_at h.description (h.custom ++ entries) 108 long in
    let behind : drop 128 (index_bytes h entries) ≡ h.custom ++ entries = drop_at h.description (h.custom ++ entries) 108 long in
    let custom : take 54 (drop 128 (index_bytes h entries)) ≡ h.custom = ap (take 54) behind ∙ take_at h.custom entries 54 custom_long in
    let size : length (index_bytes h entries) ≡ 182 + 47 * h.games =
    omega (arith, length-append h.description (h.custom ++ entries), length-append h.custom entries) in
    rw (size, games, le-ltb (182 + 47 * h.games) 182 (omega arith), le-ltb 16777214 h.games is.games, le-ltb (182 + 47 * h.games) (182 + 47 * h.games) (omega arith))
    (λ i. Ok (record { kind = kind i; games = h.games; autoload = autoload i; description = description i; custom = custom i }))

-- The same of an answer.
pub read_again_at : {X E : Type 0} (items : X → List ℕ) (r : Result X E) (h : IndexHead) (entries : List ℕ) → IsIndexHead h → OnOk r (h.kind < 4294967296) → length h.description ≡ 108 → length h.custom ≡ 54
    → length entries ≡ 47 * h.games → IfOk r (λ x. items x ≡ index_bytes h entries) → IfOk r (λ x. index_read (items x) ≡ Ok h)
read_again_at items (Ok x) h entries is kind_fits long custom_long sized bytes =
    ap index_read bytes ∙ index_again h entries is kind_fits long custom_long sized
read_again_at items (Err e) h entries is kind_fits long custom_long sized bytes = tt
