-- What an instrument shows of its fields.
use Rattle.wb_instrument.specs.declared.setup.Instrument.TheInside.{Inside}
use Rattle.wb_instrument.specs.Setup.{Setup}

abbrev pub setup_inside : Inside → Setup
setup_inside i = record {
  interval_kg = i.interval_kg;
  max_kg = i.max_kg;
  window = i.window;
  band = i.band;
  pace = i.pace;
  wait = i.wait;
  serial = i.serial;
  retention_days = i.retention_days;
  capacity = i.capacity;
}
