-- `package::load::load` meets its contract: the device, the store's size, opening, and then the store's answer; what is lent
-- of the store for opening is its table.
-- Assumes nothing.
use mathlib.Core.Path.{◌≡◌, ◌∙◌, sym, ap, subst}
use mathlib.Core.Bool.{Bool}
use mathlib.Core.List.{List}
use Prim.Native.Nat.{ℕ}
use Rattle.outcome.specs.Result.{Ok, Err}
use Rattle.outcome.proofs.Results.{passed_on}
use Rattle.profile.specs.Rules.{Class}
use Rattle.store.specs.declared.Device.{Device}
use Rattle.store.specs.Keys.{device_of, device_ok}
use Rattle.store.specs.Stored.{classes_of}
use Rattle.store.proofs.ClassLaws.{behind_slots}
use Rattle.package.specs.Entries.{Opens}
use Rattle.package.proofs.LoadLaws.{load_country, load_device, load_size, load_refused, load_put}
use Rattle.package.proofs.load.load.Goals as goal

-- whether a device that was made of country, class and hertz is set to them
set : {r : Bool} (store country : List ℕ) (class hertz : ℕ) {device : Device} → r ≡ device_ok (classes_of store) device
    → device ≡ device_of country class hertz → {v : Bool} → r ≡ v
    → device_ok (classes_of store) (device_of country class hertz) ≡ v
set store country class hertz asked made e = sym (asked ∙ ap (device_ok (classes_of store)) made) ∙ e

pub returns-then-country-ne2-clause-store : goal.returns-then-country-ne2-clause-store
returns-then-country-ne2-clause-store c =
    let a = c.args in
    load_country a.scratch.now.category.sizes (classes_of a.store.now) a.key.now a.sealed.now a.country.now a.class a.hertz
    a.store.now c.if-country-ne2.true

pub returns-then-not-device_ok-clause-store : goal.returns-then-not-device_ok-clause-store
returns-then-not-device_ok-clause-store c =
    let a = c.args in
    load_device a.scratch.now.category.sizes (classes_of a.store.now) a.key.now a.sealed.now a.country.now a.class a.hertz
    a.store.now c.if-country-ne2.false
    (set a.store.now a.country.now a.class a.hertz c.device_ok.ensures c.device_of-device.ensures c.if-not-device_ok.true)

pub returns-then-store-ne-STORE_SIZE-clause-store : goal.returns-then-store-ne-STORE_SIZE-clause-store
returns-then-store-ne-STORE_SIZE-clause-store c =
    let a = c.args in
    load_size a.scratch.now.category.sizes (classes_of a.store.now) a.key.now a.sealed.now a.country.now a.class a.hertz
    a.store.now c.if-country-ne2.false
    (set a.store.now a.country.now a.class a.hertz c.device_ok.ensures c.device_of-device.ensures c.if-not-device_ok.false)
    c.if-store-ne-STORE_SIZE.true

pub returns-in_err-profile-clause-store : goal.returns-in_err-profile-clause-store
returns-in_err-profile-clause-store c =
    let a = c.args in
    let p = a.scratch.now.category.sizes in
    rw (passed_on c.from_residual.result c.from_residual.ensures.1)
    (load_refused p (classes_of a.store.now) a.key.now a.sealed.now a.country.now a.class a.hertz a.store.now
    c.if-country-ne2.false
    (set a.store.now a.country.now a.class a.hertz c.device_ok.ensures c.device_of-device.ensures c.if-not-device_ok.false)
    c.if-store-ne-STORE_SIZE.false _
    (subst (λ (table : List Class). Opens p table a.key.now a.sealed.now (Err c.in_err-profile.field-0.0)) (behind_slots a.store.now) c.in_err-profile.ensures.profile))

pub returns-clause-store : goal.returns-clause-store
returns-clause-store c =
    let a = c.args in
    let p = a.scratch.now.category.sizes in
    load_put p (classes_of a.store.now) a.key.now a.sealed.now a.country.now a.class a.hertz a.store.now
    c.if-country-ne2.false
    (set a.store.now a.country.now a.class a.hertz c.device_ok.ensures c.device_of-device.ensures c.if-not-device_ok.false)
    c.if-store-ne-STORE_SIZE.false _ c.device_of-device.ensures
    (subst (λ (table : List Class). Opens p table a.key.now a.sealed.now (Ok c.in_ok-profile.profile)) (behind_slots a.store.now) c.in_ok-profile.ensures.profile)
    c.put.ensures
