-- A function that is a `match` with a number for each arm answers the number of its key's arm, whatever the count of the arms. The toolchain's own derivation of a
-- function has a module's worth of text for each arm, and stops at 512; here one rule for the arms goes along the list.
use mathlib.Core.Path.{◌≡◌, refl, subst}
use mathlib.Core.Bool.{Bool, true, false, ◌&&◌}
use mathlib.Core.List.{List, [], ◌∷◌}
use mathlib.Core.Option.{some, none}
use Prim.Native.Nat.{ℕ, suc, ◌+◌, ◌-◌, ◌≤◌, ◌^◌}
use native.Mathlib.Omega.{arith}
use lib.Dec.{T, T¹, ltb, leb, ltb→lt, lt→ltb, eqb_refl}
use lib.Pow.{pow_pos}
use mir.Syntax.{Width, w64, ty_int, Home, value_local, place, copy, rv_opd, assign, switch, return}
use mir.Val.{Fits, bits, bytes, eq_w, has_ty}
use seplogic.Ra.Ura.{Ura}
use types.Logic.{Logic}
use prog.Wp.{Env, Tables, WpFn}
use contract.Lifetimes.{Lfts}
use denote.Triple.Statement.{Triple}
use borrow.Kind.Num.{p_num, r_num}
use borrow.Fn.Kinds.{ParamKind, In, Out, Dens, ty_r}
use borrow.Fn.Enter.{tys_p}
use borrow.Fn.Frame.{EnvOf}
use borrow.Fn.Function.{fn_of, plain_of}
use borrow.Fn.Plain.{t_fn_plain}
use borrow.Rule.Scalar as Scalar
use borrow.Rule.Switch as Switch
use borrow.Table.Reads.{room_gone}
use borrow.Table.Row.{Row, Cx, s_int, val_s}
use borrow.Table.Rows.{sc_here, any_gone}
use borrow.Table.Typed as Typed
use Rattle.whole.proofs.Bools.{both_left}
use Rattle.arms.proofs.Table.{Literal, plain, lacking, large, operand, number, good, arms_from, after, lookup, agrees, agree_good, agree_rest, answer}

lifted : (b : Bool) → T b → T¹ b
lifted true t = tt
lifted false t = absurd t

lacking_fits : (w : Width) (n : ℕ) → T (good w (lacking n)) → Fits w (2 ^ bits w - n)
lacking_fits w n g = let h = ltb→lt 0 n (both_left (ltb 0 n) (leb n (2 ^ bits w)) g) in let p = pow_pos (bits w) in record { fits = omega arith }

-- ---- the locals: the answer, the key, the arm's number
abbrev pub keys : List (ParamKind 0)
keys = p_num w64 ∷ []

abbrev pub homes : List Home
homes = value_local ∷ value_local ∷ value_local ∷ []

module _ (w : Width) where
  same_width : T (eq_w w w)
  same_width = eqb_refl (bytes w)

  abbrev number_here : Row
  number_here = sc_here (s_int w)

  abbrev number_gone : Row
  number_gone = any_gone (ty_int w)

  abbrev at : Row → Row → Row → Cx
  at a k n = record { locals = (0, a) ∷ (1, k) ∷ (2, n) ∷ []; slots = [] }

  abbrev entered : Cx
  entered = at number_gone (sc_here (s_int w64)) number_gone

  abbrev matched : Cx
  matched = at number_gone (sc_here (s_int w64)) number_here

  abbrev copied : Cx
  copied = at number_here (sc_here (s_int w64)) number_here

  abbrev cleared : Cx
  cleared = at number_here (sc_here (s_int w64)) number_gone

  abbrev returned : Cx
  returned = at number_here (any_gone (ty_int w64)) number_gone

  abbrev out : Typed.Outs
  out = record { next = none; exits = []; returns = some returned }

  abbrev inner : Typed.Outs
  inner = Typed.with_next (some matched) out

  -- ---- what the parts of the code ask
  abbrev put : ℕ → Typed.Mo entered → Typed.Mo matched
  put n = Scalar.put_at entered 2 number_here n

  abbrev wants_of : ℕ → Typed.TF entered inner
  wants_of n = λ Ψ u. Typed.at_next inner Ψ (put n u)

  abbrev wants : (k : ℕ) (ls : List Literal) → Switch.Wants entered inner (arms_from w k ls)
  wants k [] = wants_of 0
  wants k (l ∷ ls) = (wants_of (number w l), wants (suc k) ls)

  abbrev copies : Typed.Mo matched → Typed.Mo copied
  copies = Scalar.n_use matched (Scalar.o_at 2 (ty_int w) (val_s (s_int w))) 0 number_here (s_int w).of

  abbrev clears : Typed.Mo copied → Typed.Mo cleared
  clears = Scalar.n_room copied 2 (ty_int w)

  abbrev leaves : Typed.Mo cleared → Typed.Mo returned
  leaves = Scalar.n_room cleared 1 (ty_int w64)

  abbrev wants_after : Typed.TF matched out
  wants_after = λ Ψ u. Typed.at_ret out Ψ (leaves (clears (copies u)))

  abbrev wants_switch : List Literal → Typed.TF entered inner
  wants_switch ls = Switch.Φswitch entered inner 1 (λ x. x) (arms_from w 0 ls) (wants 0 ls)

  abbrev wants_all : List Literal → Typed.TF entered out
  wants_all ls = λ Ψ. wants_switch ls (Typed.want_next matched out (wants_after Ψ) Ψ)

  -- ---- and that they run
  module _ {M : Type 1} {𝓤 : Ura M} (𝓛 : Logic 𝓤) (𝓣 : Tables 𝓤 𝓛.H) (bs : List ℕ) where
    open 𝓛 use {H}

    abbrev E : Env 𝓤 H
    E = EnvOf 𝓛 (ty_r {n = 0} (r_num w) ∷ tys_p keys (ty_int w ∷ [])) bs

    assigned : (x : Scalar.Oper entered.locals) → Scalar.HasO 𝓛 E entered.locals x → ((u : Typed.Mo entered) → val_s (s_int w) ((s_int w).of (Scalar.val_o entered.locals x u)) ≡ Scalar.val_o entered.locals x u)
        → ((u : Typed.Mo entered) → T (has_ty (ty_int w) (Scalar.val_o entered.locals x u)))
        → Typed.Typed 𝓛 𝓣 E entered (assign (place 2 []) (rv_opd (Scalar.op_o entered.locals x))) inner (λ Ψ. Typed.pass entered matched (Scalar.n_use entered x 2 number_here (s_int w).of) (Typed.at_next inner Ψ))
    assigned x has shows fits =
        Typed.s_Typed 𝓛 𝓣 E entered (assign (place 2 []) (rv_opd (Scalar.op_o entered.locals x))) inner (Typed.pass entered matched (Scalar.n_use entered x 2 number_here (s_int w).of)) tt
        (Scalar.t_use 𝓛 E 𝓣 entered x 2 number_here (ty_int w) (val_s (s_int w)) (s_int w).of has (room_gone 𝓛 (ty_int w)) (Scalar.Holds-Sc 𝓛 (s_int w)) refl shows fits)

    literal_runs : (l : Literal) → T (good w l) → Typed.Typed 𝓛 𝓣 E entered (assign (place 2 []) (rv_opd (operand w l))) inner (wants_of (number w l))
    literal_runs (plain n) g = assigned (Scalar.o_int w n) (lifted (ltb n (2 ^ bits w)) g) (λ u. refl) (λ u. same_width)
    literal_runs (lacking n) g = assigned (Scalar.o_neg w n) (lifted (ltb 0 n && leb n (2 ^ bits w)) g, lacking_fits w n g) (λ u. refl) (λ u. same_width)
    literal_runs (large n) g = assigned (Scalar.o_big w n) (record { lower = record { fits = ltb→lt n (2 ^ bits w) g } }) (λ u. refl) (λ u. same_width)

    arms_run : (f : ℕ → ℕ) (k : ℕ) (ls : List Literal) → T (agrees w f k ls) → Switch.TypedArms 𝓛 𝓣 E entered inner (arms_from w k ls) (wants k ls)
    arms_run f k [] t = assigned (Scalar.o_int w 0) (lifted (ltb 0 (2 ^ bits w)) (lt→ltb 0 (2 ^ bits w) (pow_pos (bits w)))) (λ u. refl) (λ u. same_width)
    arms_run f k (l ∷ ls) t = (literal_runs l (agree_good w f k l ls t), arms_run f (suc k) ls (agree_rest w f k l ls t))

    after_runs : Typed.Typed 𝓛 𝓣 E matched after out wants_after
    after_runs =
        Typed.s_seq 𝓛 𝓣 E matched copied (assign (place 0 []) (rv_opd (copy (place 2 [])))) return out (Typed.pass matched copied copies)
        (λ Ψ. Typed.pass copied cleared clears (Typed.pass cleared returned leaves (Typed.at_ret out Ψ)))
        (Scalar.t_use 𝓛 E 𝓣 matched (Scalar.o_at 2 (ty_int w) (val_s (s_int w))) 0 number_here (ty_int w) (val_s (s_int w)) (s_int w).of (Scalar.reads_Sc 𝓛 (s_int w), refl) (room_gone 𝓛 (ty_int w)) (Scalar.Holds-Sc 𝓛 (s_int w)) refl (λ u. refl) (λ u. same_width))
        (Typed.g_pre_lem 𝓛 𝓣 E copied cleared return out (Typed.pass copied cleared clears) (λ Ψ. Typed.pass cleared returned leaves (Typed.at_ret out Ψ))
        (Scalar.g_room 𝓛 E copied 2 (ty_int w) (Scalar.room_Sc 𝓛 (s_int w)))
        (Typed.g_pre_lem 𝓛 𝓣 E cleared returned return out (Typed.pass cleared returned leaves) (Typed.at_ret out)
        (Scalar.g_room 𝓛 E cleared 1 (ty_int w64) (Scalar.room_Sc 𝓛 (s_int w64)))
        (Typed.t_return 𝓛 𝓣 E out tt)))

    lookup_runs : (f : ℕ → ℕ) (ls : List Literal) → T (agrees w f 0 ls) → Typed.Typed 𝓛 𝓣 E entered (lookup w ls) out (wants_all ls)
    lookup_runs f ls t =
        Typed.t_seq 𝓛 𝓣 E entered matched (switch (copy (place 1 [])) (arms_from w 0 ls)) after out (wants_switch ls) wants_after
        (Switch.t_switch 𝓛 E 𝓣 entered 1 w64 (λ x. x) (arms_from w 0 ls) inner (wants 0 ls) (Scalar.reads_Sc 𝓛 (s_int w64)) refl (arms_run f 0 ls t)) after_runs

  -- ---- what the switch asks is what is wanted of the answer
  module _ (x : ℕ) (Ψ : Typed.Want inner) (u : Typed.Mo entered) where
    asked : (k : ℕ) (ls : List Literal) (Past : Type 0) → (Past → k ≤ x) → ((j : ℕ) → x ≡ k + j → Typed.at_next inner Ψ (put (answer w ls j) u)) → Switch.Φarms entered inner (arms_from w k ls) (wants k ls) Past x Ψ u
    asked k [] Past past want = λ p. want (x - k) (let h = past p in omega arith)
    asked k (l ∷ ls) Past past want = (
      λ e. want 0 (omega (arith, e)),
      asked (suc k) ls _ (λ p. let h = past p.0 in let n : x ≡ k → ⊥ = p.1 in omega arith) (λ j e. want (suc j) (omega arith)),
    )

  -- ---- THE LAW: a function that is a lookup meets what holds of its numbers
  module _ {M : Type 1} {𝓤 : Ura M} (𝓛 : Logic 𝓤) (𝓣 : Tables 𝓤 𝓛.H) (f : ℕ → ℕ) (ls : List Literal) (t : T (agrees w f 0 ls)) where
    open 𝓛 use {H}

    pub lookup_meets : (Pre : In 0 keys) (Post : Out 0 keys (r_num w)) → ((κs : Lfts 0) (a : Dens κs keys) → Post κs a (answer w ls a.0) (a.0, tt))
        → Triple 𝓤 (WpFn 𝓤 H 𝓣.C 𝓣.Λ (fn_of 0 keys (r_num w) (ty_int w ∷ []) 0 homes (lookup w ls))) (plain_of 𝓛 0 keys (r_num w) Pre Post)
    lookup_meets Pre Post want =
        t_fn_plain 𝓛 𝓣 0 keys (r_num w) (ty_int w ∷ []) 0 homes (lookup w ls) (λ κs qs bs. wants_all ls) (λ κs qs bs bd. lookup_runs 𝓛 𝓣 bs f ls t) Pre Post
        (λ κs qs a good pre bs. asked a.0 _ _ 0 ls (Unit {0}) (λ _. omega arith) (λ j e. let i : a.0 ≡ j = omega (arith, e) in ((tt, tt), subst (λ i. Post κs a (answer w ls i) (a.0, tt)) i (want κs a))))
