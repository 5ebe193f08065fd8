mod Removing
