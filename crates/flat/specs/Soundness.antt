-- That a fit image is a sound shelf, as a term that the shelf gives.
use Rattle.std.specs.Prelude.{◌≡◌, ℕ, ◌+◌, ◌*◌, ◌<◌, ◌≤◌, Bool, true, false, List, [], length, is_some, Some, None, Option, ◌≢◌, slice_index_or, refl}
use Rattle.std.proofs.Common.{sym, ap, subst, ◌∙◌, arith}
use Rattle.std.proofs.lemmas.List.{get_or_past}
use Rattle.std.proofs.lemmas.Grind.{common_steps}
use Rattle.std.proofs.lemmas.Option.{cond_some}
use Rattle.std.specs.Option.{option_map}
use Rattle.device.proofs.Writing.{length_part}
use Rattle.device.specs.Files.{SoundFile, Counted, Sound, limit_fits, firm}
use Rattle.device.specs.Paths.{Path, path_fits}
use Rattle.flat.specs.Images.{Shape, record_at, slot, bad, unfit_at}
use Rattle.flat.specs.Listing.{listed, roll}
use Rattle.flat.specs.RecordLaws.{shape_from, length-record_at, holds_parts, holds_own, well_made_parts}
use Rattle.flat.specs.Records.{path_of, size_of, content_of, taken, holds, record_fits}
use Rattle.flat.specs.SearchLaws.{first_only, found_by_first, nowhere_by_first, how_many_few}
use Rattle.flat.specs.Searches.{first}
use Rattle.flat.specs.Shelves.{flat, Live}

-- what is known of a fit image
pub record FitImage (im : List ℕ) (L : ℕ) : Type 0 where
  pub limit : limit_fits L ≡ true
  pub shape : Shape im L
  pub fits : (r : ℕ) → r < 16 → record_fits (record_at im L r) ≡ true
  pub alone : (r s : ℕ) → r < 16 → s < r → taken (record_at im L r) ≡ true → taken (record_at im L s) ≡ true → path_of (record_at im L s) ≢ path_of (record_at im L r)

pub fit_image : (im : List ℕ) (L : ℕ) → is_some (unfit_at im L) ≡ false → FitImage im L
unfolding unfit_at
fit_image im L e =
    let fits : limit_fits L ≡ true = grind (arith, common_steps) in
    let long : length im ≡ 16 * (64 + L) = grind (arith, common_steps) in
    let none : first (bad im L) 16 ≡ None = grind (arith, common_steps) in
    let good = nowhere_by_first (bad im L) 16 none in
    record {
      limit = fits;
      shape = shape_from im L fits long;
      fits = λ r l. grind (arith, common_steps, good r l);
      alone = λ r s l h t u same.
          (let lower : slot im L (path_of (record_at im L r)) r ≡ None = grind (arith, common_steps, good r l) in
          grind (arith, nowhere_by_first (λ q. holds (path_of (record_at im L r)) (record_at im L q)) r lower s h, holds_own (path_of (record_at im L r)) (record_at im L s) u same));
    }

firm_sound : (L : ℕ) (c : List ℕ) → length c ≤ L → SoundFile L (firm c)
firm_sound L c h = record { within = h; sure = omega arith; chosen = record { least = omega arith; most = omega arith; firmly = λ i e. refl } }

some_from : {X : Type 0} (o : Option X) → is_some o ≡ true → (x : X) × (o ≡ Some x)
some_from None e = cc
some_from (Some x) e = (x, refl)

mapped_some : {X Y : Type 0} (f : X → Y) (o : Option X) (y : Y) → option_map f o ≡ Some y → (x : X) × (o ≡ Some x) × (y ≡ f x)
mapped_some f None y e = cc
mapped_some f (Some x) y e = (x, refl, cc)

pub mapped_is : {X Y : Type 0} (f : X → Y) (o : Option X) → is_some (option_map f o) ≡ is_some o
mapped_is f o = grind (arith, common_steps)

module _ (im : List ℕ) (L : ℕ) (fit : FitImage im L) where
  -- two records with one path are one
  pub one_record : (r s : ℕ) → r < 16 → s < 16 → taken (record_at im L r) ≡ true → taken (record_at im L s) ≡ true → path_of (record_at im L r) ≡ path_of (record_at im L s) → r ≡ s
  one_record r s a b t u e = grind (arith, fit.alone r s, fit.alone s r)

  pub slot_is : (p : Path) (r : ℕ) → r < 16 → taken (record_at im L r) ≡ true → path_of (record_at im L r) ≡ p → slot im L p 16 ≡ Some r
  slot_is p r l t e =
      first_only (λ q. holds p (record_at im L q)) 16 r l (holds_own p (record_at im L r) t e)
      (λ k b h. (let x = holds_parts p (record_at im L k) h in one_record k r b l x.0 t (x.1 ∙ sym e)))

  -- what is known of a path's record
  pub record Slotted (p : Path) (r : ℕ) : Type 0 where
    pub low : r < 16
    pub used : taken (record_at im L r) ≡ true
    pub path : path_of (record_at im L r) ≡ p

  pub slotted : (p : Path) (r : ℕ) → slot im L p 16 ≡ Some r → Slotted p r
  slotted p r e =
      let f = found_by_first (λ q. holds p (record_at im L q)) 16 r e in
      let h = holds_parts p (record_at im L r) f.here in
      record { low = f.low; used = h.0; path = h.1 }

  pub path_good : (r : ℕ) → r < 16 → taken (record_at im L r) ≡ true → path_fits (path_of (record_at im L r)) ≡ true
  path_good r l t = (well_made_parts (record_at im L r) t (fit.fits r l)).path

  pub size_within : (r : ℕ) → r < 16 → taken (record_at im L r) ≡ true → size_of (record_at im L r) ≤ L
  size_within r l t = omega (arith, (well_made_parts (record_at im L r) t (fit.fits r l)).size, length-record_at im L r)

  module _ (opened : List Bool) (live : Live opened im L) where
    there_slot : (p : Path) → is_some ((flat im L opened).file p) ≡ true → (r : ℕ) × Slotted p r
    there_slot p e =
        let t = some_from (slot im L p 16) (sym (mapped_is (λ r. firm (content_of (record_at im L r))) (slot im L p 16)) ∙ e) in
        (t.0, slotted p t.0 t.1)

    slot_there : (p : Path) (r : ℕ) → Slotted p r → is_some ((flat im L opened).file p) ≡ true
    slot_there p r s =
        mapped_is (λ q. firm (content_of (record_at im L q))) (slot im L p 16) ∙ ap is_some (slot_is p r s.low s.used s.path)

    pub handle_slot : (h : ℕ) (p : Path) → (flat im L opened).handle h ≡ Some p → Slotted p h
    handle_slot h p e =
        let s = cond_some _ _ _ e in
        let low : h < 16 = grind (arith, common_steps, live.0, get_or_past opened h false, s.0) in
        record { low = low; used = live.1 h s.0; path = s.1 }

    counted : Counted (flat im L opened)
    counted =
        let P = λ (r : ℕ). taken (record_at im L r) in
        let name = λ (r : ℕ). path_of (record_at im L r) in
        let o = roll P name 16 fit.alone 16 (omega arith) in
        record {
          names = listed P name 16;
          many = o.many;
          there = λ i h. (let x = o.each i h in slot_there (slice_index_or (listed P name 16) i []) x.0 (record { low = x.1; used = x.2; path = sym x.3 }));
          listed = λ p e. (let y = there_slot p e in let x = o.there y.0 y.1.low y.1.used in (x.0, x.1, x.2 ∙ y.1.path));
          once = o.once;
        }

    pub flat_is_sound : Sound (flat im L opened)
    flat_is_sound = record {
      limit = fit.limit;
      few = how_many_few (λ r. taken (record_at im L r)) 16;
      counted = counted;
      paths = λ p e. (let y = there_slot p e in sym (ap path_fits y.1.path) ∙ path_good y.0 y.1.low y.1.used);
      files = λ p f e. (let t = mapped_some (λ r. firm (content_of (record_at im L r))) (slot im L p 16) f e in
          let s = slotted p t.0 t.1 in
          subst (SoundFile L) (sym t.2) (firm_sound L (content_of (record_at im L t.0)) (omega (arith, length_part (record_at im L t.0) 64 (size_of (record_at im L t.0)), size_within t.0 s.low s.used))));
      handles = λ h p e. (let s = handle_slot h p e in record { low = s.low; there = slot_there p h s });
      one_handle = λ h k p e q. (let s = handle_slot h p e in let t = handle_slot k p q in one_record h k s.low t.low s.used t.used (s.path ∙ sym t.path));
    }

pub flat_sound : (im : List ℕ) (L : ℕ) (opened : List Bool) → is_some (unfit_at im L) ≡ false → Live opened im L → Sound (flat im L opened)
flat_sound im L opened fit live = flat_is_sound im L (fit_image im L fit) opened live
