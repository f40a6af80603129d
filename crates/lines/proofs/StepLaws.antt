-- What the parts of a step make of an exchange, in the form of what the code has in hand.
use mathlib.Core.Path.{◌≡◌, refl, sym, ap, subst, ◌∙◌}
use mathlib.Core.Bool.{Bool, true, false≢true}
use mathlib.Core.List.{List}
use Prim.Native.Nat.{ℕ, zero, suc, ◌≤◌, ◌<◌, min}
use native.Mathlib.Omega.{arith}
use lib.IntN.{ℤ, pos, negsuc, nat_abs}
use lib.Signed.{lt_z}
use mir.Syntax.{w64}
use mir.Val.{SFits, to_z, of_z}
use mir.ValLaws.{to_z-of_z}
use Rattle.lines.specs.declared.Stop.TheVariants.{Last, End, Failed}
use Rattle.lines.specs.declared.Exchange.{Exchange}
use Rattle.lines.specs.Exchanges.{is_over, Says, Stopped}
use Rattle.lines.specs.Inside.Steps.{amid, ended, at_end, end_of, after_read, Sound}

-- ---- the end of the input
pub last_stop : (n : ℕ) → 0 < n → Last ≡ end_of n
last_stop zero h = absurd (omega arith)
last_stop (suc n) h = refl

pub end_stop : (n : ℕ) → n ≤ 0 → End ≡ end_of n
end_stop zero h = refl
end_stop (suc n) h = absurd (omega arith)

pub ruleset end_stops = (last_stop, end_stop)

-- ---- a read that gave some bytes
pub positive : (n : ℕ) (e : Exchange) (got : ℤ) → lt_z (pos 0) got ≡ true → amid 0 (min (nat_abs got) n) e.kept e.gathered ≡ after_read n got e
unfolding after_read
positive n e (pos (suc k)) h = refl
positive n e (pos zero) h = absurd (false≢true h)
positive n e (negsuc k) h = absurd (false≢true h)

-- the same of a number that is read back from its bits
pub positive_read : (n : ℕ) (e : Exchange) (got : ℤ) → SFits w64 got → {r : Exchange} {end : ℕ} → lt_z (pos 0) (to_z w64 (of_z w64 got)) ≡ true → end ≡ min (nat_abs (to_z w64 (of_z w64 got))) n → r ≡ amid 0 end e.kept e.gathered → r ≡ after_read n got e
positive_read n e got fits h count same =
    let back = to_z-of_z w64 got fits in
    same ∙ ap (λ (k : ℕ). amid 0 k e.kept e.gathered) (count ∙ ap (λ (z : ℤ). min (nat_abs z) n) back)
    ∙ positive n e got (ap (lt_z (pos 0)) (sym back) ∙ h)

-- ---- each part is sound
pub amid_sound : {at end kept gathered piece line out : ℕ} {e : Exchange} → e ≡ amid at end kept gathered → at ≤ end → end ≤ piece → kept ≤ line → gathered ≤ out → Sound piece line out e
amid_sound {piece = p} {line = l} {out = o} same a b k g =
    subst (Sound p l o) (sym same) (record { within = (a, (b, (k, g))); settled = λ bytes over. absurd (false≢true over) })

pub failed_sound : {piece line out : ℕ} {e : Exchange} → e ≡ ended 0 0 Failed → Sound piece line out e
failed_sound {piece = p} {line = l} {out = o} same =
    subst (Sound p l o) (sym same) (record { within = (omega arith, (omega arith, (omega arith, omega arith))); settled = λ bytes over. (refl, refl) })

end_says : (bytes : List ℕ) (kept gathered : ℕ) → Says bytes (ended kept gathered (end_of kept)) (end_of kept)
end_says bytes zero gathered = refl
end_says bytes (suc n) gathered = omega arith

end_sound : (piece : ℕ) (e : Exchange) → Sound piece e.kept e.gathered (at_end e)
unfolding at_end
end_sound p e = record { within = (omega arith, (omega arith, (omega arith, omega arith))); settled = λ bytes over. end_says bytes e.kept e.gathered }

-- the piece that is read into is as long as the one that is lent
pub read_sound : (n piece : ℕ) (got : ℤ) (e : Exchange) {r : Exchange} → r ≡ after_read n got e → n ≤ piece → Sound piece e.kept e.gathered r
unfolding after_read
read_sound n p (negsuc k) e same h = failed_sound same
read_sound n p (pos zero) e same h = subst (Sound p e.kept e.gathered) (sym same) (end_sound p e)
read_sound n p (pos (suc k)) e same h = amid_sound same (omega arith) (omega arith) (omega arith) (omega arith)

-- ---- where a step stops
pub over_stopped : {piece line out : ℕ} {b : Bool} (bytes : List ℕ) {e : Exchange} → Sound piece line out e → b ≡ is_over e.stop → b ≡ true → Stopped bytes e
over_stopped bytes sound says over = sound.settled bytes (sym says ∙ over)
