-- What the percent encoder writes, by which bytes stand for themselves.
use Rattle.std.proofs.Common.{◌≡◌, ℕ, ◌≤◌, Bool, true, false, not, ◌||◌, List, [], ◌∷◌, ◌++◌, codes, refl, ap, sym, ◌∙◌, arith}
use Rattle.std.specs.Prelude.{flat_map, if◌then◌else◌}
use Rattle.std.specs.Char.{is_ascii}
use Rattle.std.proofs.lemmas.Bool.{agree_below, agree_below_at}
use Rattle.std.proofs.lemmas.Bool.Decides.{nat_tests}
use Rattle.percent_encoding.specs.declared.ascii_set.AsciiSet.{AsciiSet}
use Rattle.percent_encoding.specs.declared.ascii_set.TheConstants.{NON_ALPHANUMERIC}
use Rattle.percent_encoding.specs.AsciiSet.{contains, should_percent_encode}
use Rattle.percent_encoding.specs.Percent.{encode_byte, percent_encode, percent_encode_byte}
use Rattle.tera_filters.specs.declared.urls.TheConstants.{IN_PATH}
use Rattle.tera_filters.specs.Urls.{is_plain, url_byte, urlencoded}

flat_map_agrees : (f g : ℕ → List ℕ) → ((b : ℕ) → f b ≡ g b) → (t : List ℕ) → flat_map f t ≡ flat_map g t
flat_map_agrees f g same [] = refl
flat_map_agrees f g same (b ∷ t) = ap (λ (x : List ℕ). x ++ flat_map f t) (same b) ∙ ap (λ (y : List ℕ). g b ++ y) (flat_map_agrees f g same t)

-- a byte outside ASCII is escaped, and one within it where the set has it
by_ascii : (ascii inside plain : Bool) → (ascii ≡ true → inside ≡ not plain) → (ascii ≡ false → plain ≡ false) → (not ascii || inside) ≡ not plain
by_ascii true inside plain low high = low refl
by_ascii false inside plain low high = sym (ap not (high refl))

other_way : (p : Bool) (x y : List ℕ) → (if not p then x else y) ≡ (if p then y else x)
other_way true x y = refl
other_way false x y = refl

-- the set has the ASCII bytes that do not stand for themselves
abbrev agrees : AsciiSet → List ℕ → Bool
agrees set others = agree_below (contains set) (λ b. not (is_plain others b)) 128

escaped-is : (set : AsciiSet) (others : List ℕ) → agrees set others ≡ true → ((b : ℕ) → 128 ≤ b → is_plain others b ≡ false) → (b : ℕ) → should_percent_encode set b ≡ not (is_plain others b)
unfolding should_percent_encode
escaped-is set others all high b =
    by_ascii (is_ascii b) (contains set b) (is_plain others b)
    (λ low. agree_below_at (contains set) (λ x. not (is_plain others x)) 128 b all (grind (arith, nat_tests)))
    (λ no. high b (grind (arith, nat_tests)))

encode_byte-is : (set : AsciiSet) (others : List ℕ) → agrees set others ≡ true → ((b : ℕ) → 128 ≤ b → is_plain others b ≡ false) → (b : ℕ) → encode_byte set b ≡ url_byte others b
encode_byte-is set others all high b =
    ap (λ (s : Bool). if s then percent_encode_byte b else b ∷ []) (escaped-is set others all high b) ∙ other_way (is_plain others b) (percent_encode_byte b) (b ∷ [])

percent_encode-is : (set : AsciiSet) (others : List ℕ) → agrees set others ≡ true → ((b : ℕ) → 128 ≤ b → is_plain others b ≡ false) → (t : List ℕ) → percent_encode set t ≡ urlencoded others t
unfolding percent_encode
percent_encode-is set others all high t = flat_map_agrees (encode_byte set) (url_byte others) (encode_byte-is set others all high) t

pub strict-is : (t : List ℕ) → percent_encode NON_ALPHANUMERIC t ≡ urlencoded [] t
strict-is t = percent_encode-is NON_ALPHANUMERIC [] refl (λ b high. grind (arith, nat_tests)) t

pub in_path-is : (t : List ℕ) → percent_encode IN_PATH t ≡ urlencoded (codes "/-_.~") t
in_path-is t = percent_encode-is IN_PATH (codes "/-_.~") refl (λ b high. grind (arith, nat_tests)) t
