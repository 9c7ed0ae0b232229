mod Backwards
