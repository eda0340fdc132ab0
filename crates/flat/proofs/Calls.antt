-- What the calls of a flat shelf come to, over the image, the limit and the flags alone.
use Rattle.std.proofs.Common.{◌≡◌, ℕ, ◌+◌, ◌<◌, ◌≤◌, Bool, true, false, cond, not, eqb, List, [], length, get_or, set, is_some, Some, None, Option, sym, refl, ap, ◌∙◌, subst, inl, inr, ⊎_elim, arith}
use Rattle.std.proofs.lemmas.List.{get_or_past, get_or-set_same, get_or-set_other, length-set}
use Rattle.std.proofs.lemmas.Bool.{cases_Bool, cond-true, cond-false, eqb-true, eqb-false, false≢true, not-true, both_ways}
use Rattle.std.proofs.lemmas.Grind.{common_steps}
use Rattle.std.specs.Option.{option_map}
use Rattle.device.proofs.Writing.{length_part, part_same, written_nothing, written_size}
use Rattle.device.specs.Contents.{byte, part, written}
use Rattle.device.specs.Files.{File, firm}
use Rattle.device.specs.Paths.{Path, path_fits}
use Rattle.device.specs.ShelfCalls.{Same, FirmChoice, LooseChoice, Both, Kept, Reached, Measured, OpenedFile, Opens, Fetched, Put}
use Rattle.flat.proofs.Labelling.{labelled_filed}
use Rattle.flat.proofs.Replacing.{Filed, Lone, file_in, elsewhere, used_here, path_here, slot_here, fit_replaced, file_same, file_here, fit_from, not_holds}
use Rattle.flat.proofs.Storing.{content_byte, stored_filed}
use Rattle.flat.specs.Images.{record_at, slot, vacancy, replaced, unfit_at, image_written}
use Rattle.flat.specs.RecordLaws.{length-record_at, well_made_parts}
use Rattle.flat.specs.Records.{path_of, size_of, content_of, taken, holds, labelled, stored}
use Rattle.flat.specs.SearchLaws.{Found, found_by_first, nowhere_by_first, how_many_same, how_many_more, how_many_few, how_many_all}
use Rattle.flat.specs.Searches.{how_many}
use Rattle.flat.specs.Shelves.{flat, Live}
use Rattle.flat.specs.Soundness.{FitImage, fit_image, one_record, slot_is, slotted}

pub same_file : (o : Option File) → Both Same o o
same_file None = tt
same_file (Some f) = record { bytes = refl; sure = refl; loose = λ i. refl }

firm_file : (o : Option File) → Both FirmChoice o o
firm_file None = tt
firm_file (Some f) = record { bytes = refl; sure = omega arith; loose = λ i t. t }

module _ (im : List ℕ) (L : ℕ) (opened : List Bool) (ok : is_some (unfit_at im L) ≡ false) (live : Live opened im L) where
  fit : FitImage im L
  fit = fit_image im L ok

  pub kept : Kept (flat im L opened) (flat im L opened)
  kept = record { steady = record { lit = refl; lit_after = refl; limit = refl; count = refl; handle = λ h. refl }; files = λ p. same_file ((flat im L opened).file p) }

  -- the size of a record's file
  pub listed_file : (r : ℕ) → r < 16 → taken (record_at im L r) ≡ true → option_map (λ g. length g.bytes) ((flat im L opened).file (path_of (record_at im L r))) ≡ Some (size_of (record_at im L r))
  listed_file r low used =
      ap (λ o. option_map (λ g. length g.bytes) (option_map (file_in im L) o)) (slot_is im L fit (path_of (record_at im L r)) r low used refl)
      ∙ ap Some (length_part (record_at im L r) 64 (size_of (record_at im L r)))

  module _ (h : ℕ) (is_open : get_or opened h false ≡ true) where
    pub open_low : h < 16
    open_low = grind (arith, common_steps, live.0, get_or_past opened h false)

    pub file_there : (flat im L opened).file (path_of (record_at im L h)) ≡ Some (firm (content_of (record_at im L h)))
    file_there = ap (option_map (file_in im L)) (slot_is im L fit (path_of (record_at im L h)) h open_low (live.1 h is_open) refl)

    abbrev pub reached : Reached (flat im L opened) h
    reached = record { path = path_of (record_at im L h); file = firm (content_of (record_at im L h)); named = cond-true (get_or opened h false) _ _ is_open; there = file_there }

    pub measured : (n : ℕ) → n ≡ size_of (record_at im L h) → Measured (flat im L opened) h n (flat im L opened)
    measured n e = record { reached = reached; is = e ∙ sym (length_part (record_at im L h) 64 (size_of (record_at im L h))); kept = kept }

    pub fetched : (at : ℕ) (old new : List ℕ) → at + length old ≤ L → new ≡ part (record_at im L h) (64 + at) (length old) → Fetched (flat im L opened) h at old new (flat im L opened)
    fetched at old new b e =
        let rec = record_at im L h in
        let w = well_made_parts rec (live.1 h is_open) (fit.fits h open_low) in
        record {
          reached = reached;
          within = b;
          is = e ∙ part_same rec (content_of rec) (64 + at) at (length old) (λ k l. (let a : 64 + at + k ≡ 64 + (at + k) = omega arith in ap (byte rec) a ∙ content_byte rec (size_of rec) w.past (at + k) (omega (arith, length-record_at im L h))));
          kept = kept;
        }

  -- a path that has record r is opened
  module _ (p : Path) (good : path_fits p ≡ true) (r : ℕ) where
    handle_set : (new : List ℕ) → ((k : ℕ) → (k ≡ r → ⊥) → record_at new L k ≡ record_at im L k) → path_of (record_at new L r) ≡ p → r < 16
        → (k : ℕ) → (flat new L (set opened r true)).handle k ≡ cond (eqb k r) (Some p) ((flat im L opened).handle k)
    handle_set new same e low k = grind (arith, common_steps, live.0, same k, get_or-set_same opened r true false, get_or-set_other opened r k true false)

    live_set : (new : List ℕ) → ((k : ℕ) → (k ≡ r → ⊥) → record_at new L k ≡ record_at im L k) → taken (record_at new L r) ≡ true → Live (set opened r true) new L
    live_set new same t = (length-set opened r true ∙ live.0, λ k o. grind (arith, common_steps, live.1 k, same k, get_or-set_other opened r k true false))

    pub old_flags : slot im L p 16 ≡ Some r → Live (set opened r true) im L
    old_flags e = live_set im (λ k ne. refl) (slotted im L fit p r e).used

    pub old_opens : slot im L p 16 ≡ Some r → Opens (flat im L opened) p r (flat im L (set opened r true))
    old_opens e =
        let s = slotted im L fit p r e in
        let f : (flat im L opened).file p ≡ Some (file_in im L r) = ap (option_map (file_in im L)) e in
        record {
          path = good;
          room = λ n. absurd (false≢true (sym (ap is_some n) ∙ ap is_some f));
          lit = refl;
          lit_after = refl;
          limit = refl;
          count = sym (cond-true (is_some ((flat im L opened).file p)) _ _ (ap is_some f));
          choice = record { low = s.low; free = ⊎_elim (λ t. inl (cond-true (get_or opened r false) _ _ t ∙ ap Some s.path)) (λ t. inr (cond-false (get_or opened r false) _ _ t)) (cases_Bool (get_or opened r false)) };
          handle = handle_set im (λ k ne. refl) s.path s.low;
          file = (let O : Option File → Type 0 = λ o. OpenedFile o o in subst O (sym f) (same_file (Some (file_in im L r))));
          others = λ q ne. same_file ((flat im L opened).file q);
        }

  -- every record is taken
  pub shelf_full : vacancy im L ≡ None → 16 ≤ (flat im L opened).count
  shelf_full e =
      grind (arith, common_steps, how_many_all (λ r. taken (record_at im L r)) 16 (λ r l. grind (arith, common_steps, nowhere_by_first (λ r. not (taken (record_at im L r))) 16 e r l)))

  -- a path that has no record gets one
  module _ (p : Path) (good : path_fits p ≡ true) (absent : slot im L p 16 ≡ None) (r : ℕ) (lowest : vacancy im L ≡ Some r) where
    chosen : Found (λ q. not (taken (record_at im L q))) 16 r
    chosen = found_by_first (λ q. not (taken (record_at im L q))) 16 r lowest

    free : taken (record_at im L r) ≡ false
    free = not-true (taken (record_at im L r)) chosen.here

    abbrev named : List ℕ
    named = replaced im L r (labelled (record_at im L r) p)

    filed : Filed L (labelled (record_at im L r) p) p []
    filed = labelled_filed (record_at im L r) (omega (arith, length-record_at im L r, fit.shape.least)) free (fit.fits r chosen.low) p good L (length-record_at im L r)

    lone : Lone im L r p
    lone s l ne = nowhere_by_first (λ q. holds p (record_at im L q)) 16 absent s l

    named_elsewhere : (k : ℕ) → (k ≡ r → ⊥) → record_at named L k ≡ record_at im L k
    named_elsewhere = elsewhere im L fit r chosen.low _ p [] filed lone

    named_used : taken (record_at named L r) ≡ true
    named_used = used_here im L fit r chosen.low _ p [] filed lone

    more : how_many (λ q. taken (record_at named L q)) 16 ≡ how_many (λ q. taken (record_at im L q)) 16 + 1
    more = how_many_more (λ q. taken (record_at im L q)) (λ q. taken (record_at named L q)) 16 r chosen.low free named_used (λ k l ne. ap taken (named_elsewhere k ne))

    no_file : (flat im L opened).file p ≡ None
    no_file = ap (option_map (file_in im L)) absent

    new_file : (flat named L (set opened r true)).file p ≡ Some (firm [])
    new_file = file_here im L fit r chosen.low _ p [] filed lone

    other_file : (q : Path) → (q ≡ p → ⊥) → (flat named L (set opened r true)).file q ≡ (flat im L opened).file q
    other_file q ne = file_same im L fit r chosen.low _ p [] filed lone q ne (not_holds q (record_at im L r) (λ t e. both_ways (taken (record_at im L r)) free t))

    pub new_whole : is_some (unfit_at (replaced im L r (labelled (record_at im L r) p)) L) ≡ false
    new_whole = fit_from _ L (fit_replaced im L fit r chosen.low _ p [] filed lone)

    pub new_flags : Live (set opened r true) (replaced im L r (labelled (record_at im L r) p)) L
    new_flags = live_set p good r named named_elsewhere named_used

    pub new_slot : slot (replaced im L r (labelled (record_at im L r) p)) L p 16 ≡ Some r
    new_slot = slot_here im L fit r chosen.low _ p [] filed lone

    not_open : get_or opened r false ≡ false
    not_open = ⊎_elim (λ t. absurd (both_ways (taken (record_at im L r)) free (live.1 r t))) (λ f. f) (cases_Bool (get_or opened r false))

    pub new_opens : Opens (flat im L opened) p r (flat (replaced im L r (labelled (record_at im L r) p)) L (set opened r true))
    new_opens = record {
      path = good;
      room = λ n. omega (arith, more, how_many_few (λ q. taken (record_at named L q)) 16);
      lit = refl;
      lit_after = refl;
      limit = refl;
      count = more ∙ sym (cond-false (is_some ((flat im L opened).file p)) _ _ (ap is_some no_file));
      choice = record { low = chosen.low; free = inr (grind (arith, common_steps, live.1 r, free)) };
      handle = handle_set p good r named named_elsewhere (path_here im L fit r chosen.low _ p [] filed lone) chosen.low;
      file = (let O : Option File → Type 0 = λ o. OpenedFile o ((flat named L (set opened r true)).file p) in subst O (sym no_file) new_file);
      others = λ q ne. (let B : Option File → Type 0 = λ o. Both Same ((flat im L opened).file q) o in subst B (sym (other_file q ne)) (same_file ((flat im L opened).file q)));
    }

  -- data is written to an open file
  module _ (h : ℕ) (is_open : get_or opened h false ≡ true) (at : ℕ) (ds : List ℕ) (inside : at + length ds ≤ L) where
    used : taken (record_at im L h) ≡ true
    used = live.1 h is_open

    low : h < 16
    low = open_low h is_open

    pub put_nothing : length ds ≡ 0 → Put (flat im L opened) h at ds (flat im L opened)
    put_nothing e =
        let B : Option File → Type 0 = λ o. Both (LooseChoice at ds) o o in
        record {
          reached = reached h is_open;
          within = inside;
          steady = kept.steady;
          nothing = λ z. kept;
          file = subst B (sym (file_there h is_open)) (record { bytes = sym (written_nothing (content_of (record_at im L h)) at ds e); sure = omega arith; loose = λ i t. absurd (false≢true t) });
          others = λ q ne. firm_file ((flat im L opened).file q);
        }

    module _ (some : 0 < length ds) where
      abbrev put : List ℕ
      put = replaced im L h (stored (record_at im L h) at ds)

      put_filed : Filed L (stored (record_at im L h) at ds) (path_of (record_at im L h)) (written (content_of (record_at im L h)) at ds)
      put_filed =
          stored_filed (record_at im L h) (omega (arith, length-record_at im L h, fit.shape.most)) used (fit.fits h low) at ds some (omega (arith, inside, length-record_at im L h)) L (length-record_at im L h)

      put_lone : Lone im L h (path_of (record_at im L h))
      put_lone s l ne = not_holds _ (record_at im L s) (λ t e. ne (one_record im L fit s h l low t used e))

      put_elsewhere : (k : ℕ) → (k ≡ h → ⊥) → record_at put L k ≡ record_at im L k
      put_elsewhere = elsewhere im L fit h low _ _ _ put_filed put_lone

      -- no record changes its path
      paths_stay : (k : ℕ) → path_of (record_at put L k) ≡ path_of (record_at im L k)
      paths_stay k = grind (arith, path_here im L fit h low _ _ _ put_filed put_lone, put_elsewhere k)

      taken_stay : (k : ℕ) → taken (record_at put L k) ≡ taken (record_at im L k)
      taken_stay k = grind (arith, used_here im L fit h low _ _ _ put_filed put_lone, put_elsewhere k, used)

      put_file : (flat put L opened).file (path_of (record_at im L h)) ≡ Some (firm (written (content_of (record_at im L h)) at ds))
      put_file = file_here im L fit h low _ _ _ put_filed put_lone

      put_other : (q : Path) → (q ≡ path_of (record_at im L h) → ⊥) → (flat put L opened).file q ≡ (flat im L opened).file q
      put_other q ne = file_same im L fit h low _ _ _ put_filed put_lone q ne (not_holds q (record_at im L h) (λ t e. ne (sym e)))

      pub put_some : Put (flat im L opened) h at ds (flat put L opened)
      put_some =
          let c = content_of (record_at im L h) in
          let B : Option File → Type 0 = λ o. Both (LooseChoice at ds) ((flat im L opened).file (path_of (record_at im L h))) o in
          let C : Option File → Type 0 = λ o. Both (LooseChoice at ds) o (Some (firm (written c at ds))) in
          record {
            reached = reached h is_open;
            within = inside;
            steady = record { lit = refl; lit_after = refl; limit = refl; count = how_many_same _ _ 16 (λ k l. taken_stay k); handle = λ k. ap (λ x. cond (get_or opened k false) (Some x) None) (paths_stay k) };
            nothing = λ z. absurd (omega arith);
            file = subst B (sym put_file) (subst C (sym (file_there h is_open)) (record { bytes = refl; sure = omega (arith, written_size c at ds some); loose = λ i t. absurd (false≢true t) }));
            others = λ q ne. (let D : Option File → Type 0 = λ o. Both FirmChoice ((flat im L opened).file q) o in subst D (sym (put_other q ne)) (firm_file ((flat im L opened).file q)));
          }

    -- of the image after the call
    record Putting (new : List ℕ) : Type 0 where
      whole : is_some (unfit_at new L) ≡ false
      flags : Live opened new L
      wrote : Put (flat im L opened) h at ds (flat new L opened)

    putting : Putting (image_written im L h at ds)
    putting = ⊎_elim nothing something (cases_Bool (eqb (length ds) 0))
      where
        nothing : eqb (length ds) 0 ≡ true → Putting (image_written im L h at ds)
        nothing t = subst Putting (sym (cond-true (eqb (length ds) 0) _ _ t)) (record { whole = ok; flags = live; wrote = put_nothing (eqb-true (length ds) 0 t) })

        something : eqb (length ds) 0 ≡ false → Putting (image_written im L h at ds)
        something t =
            let ne = eqb-false (length ds) 0 t in
            let some : 0 < length ds = omega arith in
            subst Putting (sym (cond-false (eqb (length ds) 0) _ _ t)) (record {
              whole = fit_from _ L (fit_replaced im L fit h low _ _ _ (put_filed some) (put_lone some));
              flags = (live.0, λ k o. taken_stay some k ∙ live.1 k o);
              wrote = put_some some;
            })

    pub written_whole : is_some (unfit_at (image_written im L h at ds) L) ≡ false
    written_whole = putting.whole

    pub written_taken : (k : ℕ) → get_or opened k false ≡ true → taken (record_at (image_written im L h at ds) L k) ≡ true
    written_taken = putting.flags.1

    pub written_put : Put (flat im L opened) h at ds (flat (image_written im L h at ds) L opened)
    written_put = putting.wrote
