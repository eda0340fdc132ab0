-- Bytes packed into words, and the bytes of packed words.
use Rattle.std.proofs.Common.{◌≡◌, ℕ, zero, suc, ◌+◌, ◌-◌, ◌*◌, ◌/◌, ◌%◌, ◌^◌, ◌<◌, ◌≤◌, min, List, [], ◌∷◌, ◌++◌, length, get_or, take, drop, replicate, sym, refl, ap, ◌∙◌, ⊎_elim, div-one, arith, length-take, pow_pos, pow-add}
use native.Mathlib.Nat.{div-div-eq-div-mul, zero-div}
use Rattle.std.proofs.lemmas.List.{drop_more, drop_all, take_all, take_rest, length-drop, get_or_past, get_or-take, get_or-drop, ext_get_or, length-append, length-replicate, get_or_append_left, get_or-append_right, get_or-replicate}
use Rattle.std.proofs.lemmas.List.FromFn.{length-map-range_with_len, get_or-map-range_with_len, fill_by_all}
use Rattle.std.proofs.lemmas.Bool.{cases_lt}
use Rattle.layout.specs.Packing.{low_first, packed_word, packed, byte_in, unpacked, Bytes}

-- one byte more, from the end to the front
pub low_first_more : (xs : List ℕ) (i : ℕ) → i < length xs → low_first (drop i xs) ≡ low_first (drop (i + 1) xs) * 256 + get_or xs i 0
low_first_more xs i h = ap low_first (drop_more xs i 0 h) ∙ omega arith

pub low_first_none : (xs : List ℕ) (i : ℕ) → length xs ≤ i → low_first (drop i xs) ≡ 0
low_first_none xs i h = ap low_first (drop_all i xs h)

pub low_first_below : (k : ℕ) (xs : List ℕ) → Bytes xs → length xs ≤ k → low_first xs < 2 ^ (8 * k)
low_first_below k [] small h = pow_pos (8 * k)
low_first_below zero (b ∷ bs) small h = absurd (omega arith)
low_first_below (suc k) (b ∷ bs) small h =
    let more : 8 * suc k ≡ 8 + 8 * k = omega arith in
    let power : 2 ^ (8 * suc k) ≡ 256 * 2 ^ (8 * k) = ap (λ n. 2 ^ n) more ∙ pow-add 2 8 (8 * k) in
    omega (arith, power, small 0, low_first_below k bs (λ i. small (suc i)) (omega arith))

-- the byte at k of the number
pub byte_of_low_first : (xs : List ℕ) → Bytes xs → (k : ℕ) → low_first xs / 2 ^ (8 * k) % 256 ≡ get_or xs k 0
byte_of_low_first [] small k = ap (λ n. n % 256) (zero-div (2 ^ (8 * k)))
byte_of_low_first (b ∷ bs) small zero = ap (λ n. n % 256) (div-one (b + 256 * low_first bs)) ∙ omega (arith, small 0)
byte_of_low_first (b ∷ bs) small (suc k) =
    let more : 8 * suc k ≡ 8 + 8 * k = omega arith in
    let power : 2 ^ (8 * suc k) ≡ 256 * 2 ^ (8 * k) = ap (λ n. 2 ^ n) more ∙ pow-add 2 8 (8 * k) in
    let high : (b + 256 * low_first bs) / 256 ≡ low_first bs = omega (arith, small 0) in
    ap (λ n. (b + 256 * low_first bs) / n % 256) power
    ∙ ap (λ n. n % 256) (sym (div-div-eq-div-mul (b + 256 * low_first bs) 256 (2 ^ (8 * k))) ∙ ap (λ n. n / 2 ^ (8 * k)) high)
    ∙ byte_of_low_first bs (λ i. small (suc i)) k

-- n bytes from a on, as the code cuts them out
pub part_from : (n a e : ℕ) (xs : List ℕ) → a ≤ length xs → e ≡ min (length xs) (a + n) → take (e - a) (drop a xs) ≡ take n (drop a xs)
part_from n a e xs h is =
    ⊎_elim
    (λ more. let all : e - a ≡ n = omega (arith, is) in ap (λ m. take m (drop a xs)) all)
    (λ few.
    let rest : e - a ≡ length xs - a = omega (arith, is) in
    ap (λ m. take m (drop a xs)) rest ∙ take_rest xs a ∙ sym (take_all n (drop a xs) (omega (arith, length-drop a xs))))
    (cases_lt (a + n) (length xs))

pub length-packed : (n : ℕ) (bs : List ℕ) → length (packed n bs) ≡ n
unfolding packed
length-packed n bs = length-map-range_with_len (packed_word bs) 0 n

pub get_or-packed : (n : ℕ) (bs : List ℕ) (j : ℕ) → j < n → get_or (packed n bs) j 0 ≡ packed_word bs j
unfolding packed
get_or-packed n bs j h = get_or-map-range_with_len (packed_word bs) 0 n j j 0 h (omega arith)

pub packed_by : (n : ℕ) (bs ws : List ℕ) → length ws ≡ n → ((j : ℕ) → j < n → get_or ws j 0 ≡ packed_word bs j) → ws ≡ packed n bs
unfolding packed
packed_by n bs ws long each = fill_by_all (packed_word bs) ws n 0 long each

pub length-unpacked : (n : ℕ) (ws : List ℕ) → length (unpacked n ws) ≡ n
unfolding unpacked
length-unpacked n ws = length-map-range_with_len (byte_in ws) 0 n

pub get_or-unpacked : (n : ℕ) (ws : List ℕ) (i : ℕ) → i < n → get_or (unpacked n ws) i 0 ≡ byte_in ws i
unfolding unpacked
get_or-unpacked n ws i h = get_or-map-range_with_len (byte_in ws) 0 n i i 0 h (omega arith)

pub unpacked_by : (n : ℕ) (ws bs : List ℕ) → length bs ≡ n → ((i : ℕ) → i < n → get_or bs i 0 ≡ byte_in ws i) → bs ≡ unpacked n ws
unfolding unpacked
unpacked_by n ws bs long each = fill_by_all (byte_in ws) bs n 0 long each

-- what was packed comes out again
pub byte_in-packed : (n : ℕ) (bs : List ℕ) → Bytes bs → (i : ℕ) → i < 8 * n → byte_in (packed n bs) i ≡ get_or bs i 0
byte_in-packed n bs small i h =
    let j = i / 8 in
    let k = i % 8 in
    let eight = take 8 (drop (8 * j) bs) in
    let at : (x : ℕ) → x < 8 → get_or eight x 0 ≡ get_or bs (8 * j + x) 0 = λ x l. get_or-take 8 (drop (8 * j) bs) x 0 l ∙ get_or-drop (8 * j) bs x 0 in
    let bytes : Bytes eight = λ x. ⊎_elim (λ l. omega (arith, at x l, small (8 * j + x))) (λ l. omega (arith, get_or_past eight x 0 (omega (arith, length-take 8 (drop (8 * j) bs))))) (cases_lt x 8) in
    ap (λ w. w / 2 ^ (8 * k) % 256) (get_or-packed n bs j (omega arith))
    ∙ byte_of_low_first eight bytes k
    ∙ at k (omega arith)
    ∙ ap (λ x. get_or bs x 0) (omega arith)

pub unpacked-packed : (n : ℕ) (bs : List ℕ) → Bytes bs → length bs ≤ 8 * n → unpacked (length bs) (packed n bs) ≡ bs
unpacked-packed n bs small h =
    sym (unpacked_by (length bs) (packed n bs) bs refl (λ i l. sym (byte_in-packed n bs small i (omega arith))))

-- unpacked bytes at the front of n places, and zeros after them
pub front_by : (n m : ℕ) (ws bs : List ℕ) → m ≤ n → length bs ≡ n → ((i : ℕ) → i < m → get_or bs i 0 ≡ byte_in ws i) → ((i : ℕ) → m ≤ i → get_or bs i 0 ≡ 0) → bs ≡ unpacked m ws ++ replicate (n - m) 0
front_by n m ws bs h long below above =
    let front = unpacked m ws in
    let zeros : List ℕ = replicate (n - m) 0 in
    let l₁ = length-unpacked m ws in
    let l₂ : length (front ++ zeros) ≡ n = omega (arith, length-append front zeros, length-replicate {A = ℕ} (n - m) 0) in
    ext_get_or 0 bs (front ++ zeros) (long ∙ sym l₂)
    (λ i l. ⊎_elim
    (λ lt. below i lt ∙ sym (get_or-unpacked m ws i lt) ∙ sym (get_or_append_left front zeros 0 i (omega arith)))
    (λ le. above i le ∙ sym (get_or-append_right front zeros m i 0 l₁ le ∙ get_or-replicate {A = ℕ} (n - m) (i - m) 0 0 (omega arith)))
    (cases_lt i m))
